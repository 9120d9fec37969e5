-- The reductions of a proof keep truth together, since each of them does.
use Rattle.std.proofs.Common.{◌≡◌, ℕ, List, [], ◌∷◌, refl, sym, subst}
use Rattle.std.specs.List.{AllByRecursion}
use Rattle.poly_forms.specs.declared.check_kind.CheckKind.{CheckKind}
use Rattle.poly_forms.specs.declared.draw_kind.DrawKind.{DrawKind}
use Rattle.sumcheck.specs.declared.entry.Entry.{Entry}
use Rattle.sumcheck.specs.declared.entry.Entry.TheVariants.{Message, Draw}
use Rattle.sumcheck.specs.Machine.{AtDraw, AtMessage, Filling, Lawful, RoundIsClaimed}
use Rattle.channel_products.specs.Balancing.{Balancing, balancing, collapsing, multiplying, stated, told, waiting}
use Rattle.channel_products.specs.Descent.{HasRows, descent}
use Rattle.zerocheck.specs.Zero.{zerocheck}
use Rattle.eval_reduce.specs.Linear.{linear_step}
use Rattle.eval_reduce.specs.Merge.{merge}
use Rattle.eval_reduce.specs.Pack.{pack}
use Rattle.eval_reduce.specs.Shift.{shift}
use Rattle.bit_claim.specs.Batching.{batching}
use Rattle.ring_switch.specs.Switching.{switching}
use Rattle.m3_walk.specs.declared.stage.Stage.{Stage}
use Rattle.m3_walk.specs.declared.stage.Stage.TheVariants.{Start, Channels, Flush, Constraints, Merge, Linear, Project, Claimed, Pack, Shift, Bits, Words, Switch}
use Rattle.m3_walk.specs.Stages.{flushes_in, packed_filling, staged}

-- each of them
record Laws : Type 0 where
  balancing_is : Lawful balancing
  descent_is : Lawful descent
  zerocheck_is : Lawful zerocheck
  merge_is : Lawful merge
  linear_step_is : Lawful linear_step
  pack_is : Lawful pack
  shift_is : Lawful shift
  batching_is : Lawful batching
  switching_is : Lawful switching

nothing_due : {X : Type 0} (x : X) (xs : List X) → [] ≡ x ∷ xs → ⊥
nothing_due x xs e = cc

-- a step leaves the flushes as they were
message_flushes : (w : Balancing) (v : List ℕ) → flushes_in (balancing.after_message w v) ≡ flushes_in w
message_flushes (waiting ch) v = refl
message_flushes (stated ch) v = refl
message_flushes (collapsing ch a) v = refl
message_flushes (multiplying ch a g) v = refl
message_flushes (told ch a g w) v = refl

draw_flushes : (w : Balancing) (r : ℕ) → flushes_in (balancing.after_draw w r) ≡ flushes_in w
draw_flushes (waiting ch) r = refl
draw_flushes (stated ch) r = refl
draw_flushes (collapsing ch a) r = refl
draw_flushes (multiplying ch a g) r = refl
draw_flushes (told ch a g v) r = refl

at_message : Laws → (F : Filling) (g : Stage) (check : CheckKind) (n : ℕ) (es : List Entry) → staged.entries g ≡ Message check n ∷ es → AtMessage staged g n es F
at_message laws F Start check n es e = absurd (nothing_due (Message check n) es e)
at_message laws F (Project w) check n es e = absurd (nothing_due (Message check n) es e)
at_message laws F (Claimed c) check n es e = absurd (nothing_due (Message check n) es e)
at_message laws F (Words w) check n es e = absurd (nothing_due (Message check n) es e)
at_message laws F (Channels w) check n es e =
    let a = laws.balancing_is.message F w check n es e in
    record {
      next = a.next;
      fits = λ v l f. (a.fits v l f.0, subst (AllByRecursion (HasRows F)) (sym (message_flushes w v)) f.1);
      sound = λ v l f r h. a.sound v l f.0 r h;
      size = a.size;
      passes = λ f h. a.passes f.0 h;
      stays = λ f h. a.stays f.0 h;
    }
at_message laws F (Flush w) check n es e = let a = laws.descent_is.message F w check n es e in record { next = a.next; fits = a.fits; sound = a.sound; size = a.size; passes = a.passes; stays = a.stays }
at_message laws F (Constraints w) check n es e = let a = laws.zerocheck_is.message F w check n es e in record { next = a.next; fits = a.fits; sound = a.sound; size = a.size; passes = a.passes; stays = a.stays }
at_message laws F (Merge m) check n es e = let a = laws.merge_is.message F m.walk check n es e in record { next = a.next; fits = a.fits; sound = a.sound; size = a.size; passes = a.passes; stays = a.stays }
at_message laws F (Linear w) check n es e = let a = laws.linear_step_is.message F w check n es e in record { next = a.next; fits = a.fits; sound = a.sound; size = a.size; passes = a.passes; stays = a.stays }
at_message laws F (Pack w) check n es e = let a = laws.pack_is.message F w check n es e in record { next = a.next; fits = a.fits; sound = a.sound; size = a.size; passes = a.passes; stays = a.stays }
at_message laws F (Shift w) check n es e = let a = laws.shift_is.message F w check n es e in record { next = a.next; fits = a.fits; sound = a.sound; size = a.size; passes = a.passes; stays = a.stays }
at_message laws F (Bits w) check n es e = let a = laws.batching_is.message F w check n es e in record { next = a.next; fits = a.fits; sound = a.sound; size = a.size; passes = a.passes; stays = a.stays }
at_message laws F (Switch s) check n es e = let a = laws.switching_is.message (packed_filling s.placement F) s.walk check n es e in record { next = a.next; fits = a.fits; sound = a.sound; size = a.size; passes = a.passes; stays = a.stays }

at_draw : Laws → (F : Filling) (g : Stage) (kind : DrawKind) (n : ℕ) (es : List Entry) → staged.entries g ≡ Draw kind n ∷ es → AtDraw staged g n es F
at_draw laws F Start kind n es e = absurd (nothing_due (Draw kind n) es e)
at_draw laws F (Project w) kind n es e = absurd (nothing_due (Draw kind n) es e)
at_draw laws F (Claimed c) kind n es e = absurd (nothing_due (Draw kind n) es e)
at_draw laws F (Words w) kind n es e = absurd (nothing_due (Draw kind n) es e)
at_draw laws F (Channels w) kind n es e =
    let a = laws.balancing_is.draw F w kind n es e in
    record {
      next = a.next;
      fits = λ r k f. (a.fits r k f.0, subst (AllByRecursion (HasRows F)) (sym (draw_flushes w r)) f.1);
      counted = λ f n. a.counted f.0 n;
      stays = λ r f h. a.stays r f.0 h;
    }
at_draw laws F (Flush w) kind n es e = let a = laws.descent_is.draw F w kind n es e in record { next = a.next; fits = a.fits; counted = a.counted; stays = a.stays }
at_draw laws F (Constraints w) kind n es e = let a = laws.zerocheck_is.draw F w kind n es e in record { next = a.next; fits = a.fits; counted = a.counted; stays = a.stays }
at_draw laws F (Merge m) kind n es e = let a = laws.merge_is.draw F m.walk kind n es e in record { next = a.next; fits = a.fits; counted = a.counted; stays = a.stays }
at_draw laws F (Linear w) kind n es e = let a = laws.linear_step_is.draw F w kind n es e in record { next = a.next; fits = a.fits; counted = a.counted; stays = a.stays }
at_draw laws F (Pack w) kind n es e = let a = laws.pack_is.draw F w kind n es e in record { next = a.next; fits = a.fits; counted = a.counted; stays = a.stays }
at_draw laws F (Shift w) kind n es e = let a = laws.shift_is.draw F w kind n es e in record { next = a.next; fits = a.fits; counted = a.counted; stays = a.stays }
at_draw laws F (Bits w) kind n es e = let a = laws.batching_is.draw F w kind n es e in record { next = a.next; fits = a.fits; counted = a.counted; stays = a.stays }
at_draw laws F (Switch s) kind n es e = let a = laws.switching_is.draw (packed_filling s.placement F) s.walk kind n es e in record { next = a.next; fits = a.fits; counted = a.counted; stays = a.stays }

round : Laws → (g : Stage) → RoundIsClaimed (staged.entries g) (staged.round_claim g)
round laws Start = refl
round laws (Project w) = refl
round laws (Claimed c) = refl
round laws (Words w) = refl
round laws (Channels w) = laws.balancing_is.round w
round laws (Flush w) = laws.descent_is.round w
round laws (Constraints w) = laws.zerocheck_is.round w
round laws (Merge m) = laws.merge_is.round m.walk
round laws (Linear w) = laws.linear_step_is.round w
round laws (Pack w) = laws.pack_is.round w
round laws (Shift w) = laws.shift_is.round w
round laws (Bits w) = laws.batching_is.round w
round laws (Switch s) = laws.switching_is.round s.walk

pub all_lawful : Lawful balancing → Lawful descent → Lawful zerocheck → Lawful linear_step → Lawful merge → Lawful pack → Lawful shift → Lawful batching → Lawful switching → Lawful staged
all_lawful l0 l1 l2 l3 l4 l5 l6 l7 l8 =
    let laws : Laws = record { balancing_is = l0; descent_is = l1; zerocheck_is = l2; linear_step_is = l3; merge_is = l4; pack_is = l5; shift_is = l6; batching_is = l7; switching_is = l8 } in
    record { message = at_message laws; draw = at_draw laws; round = round laws }
