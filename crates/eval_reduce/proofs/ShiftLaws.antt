-- A claim on a shifted column keeps its truth.
use Rattle.std.proofs.Common.{◌≡◌, ◌∙◌, cond, ℕ, ◌+◌, ◌*◌, ◌^◌, ◌≤◌, List, [], ◌∷◌, ◌++◌, take, drop, length, slice_index, Option, Some, None, refl, sym, ap, subst, arith, length-append, length-take, length-drop, eq-eqb}
use Rattle.std.proofs.lemmas.List.{take-append-drop}
use Rattle.std.proofs.lemmas.Nat.{pow-add}
use Rattle.tower_laws.specs.Tower.{mul}
use Rattle.cube_laws.specs.Extension.{extension}
use Rattle.cube_laws.specs.SumClaim.{sum_at}
use Rattle.shift_laws.specs.Shifts.{shift_at, shifted}
use Rattle.shift_laws.proofs.Moves.{shift_is_sum, shift_last}
use Rattle.cube_mle.specs.Moving.{shift_of}
use Rattle.poly_forms.specs.declared.check_kind.CheckKind.{CheckKind}
use Rattle.poly_forms.specs.declared.draw_kind.DrawKind.{DrawKind}
use Rattle.sumcheck.specs.declared.column_claim.ColumnClaim.{ColumnClaim}
use Rattle.sumcheck.specs.declared.entry.Entry.{Entry}
use Rattle.sumcheck.specs.declared.entry.Entry.TheVariants.{Message, Draw}
use Rattle.sumcheck.specs.Machine.{Filling, Lawful, AtMessage, AtDraw, AwaitsDraw, RoundIsClaimed}
use Rattle.sumcheck.specs.Rounds.{Rounds, DrawIsDue}
use Rattle.sumcheck.specs.Summing.{LawfulSumming, KeepsTruth, adding, closed}
use Rattle.sumcheck.proofs.Lawful.{draw_due, keeps_truth}
use Rattle.eval_reduce.specs.declared.shifting.Shifting.{Shifting}
use Rattle.eval_reduce.specs.Virtual.{IsOn}
use Rattle.eval_reduce.specs.Shift.{IsShifted, Shift, Shifted, ShiftsKeepTruth, high, low, shift, shift_entries, shift_round, shift_walk_of, shifted_sum, source_of, summed, the_sum, waiting}

one_value : (v : List ℕ) → length v ≡ 1 → v ≡ slice_index v 0 ∷ []
one_value [] l = absurd (omega arith)
one_value (x ∷ []) l = refl
one_value (x ∷ y ∷ v) l = absurd (omega arith)

sum_final : (F : Filling) (t : Shifted) (z : List ℕ) → the_sum.fits F t (length z) → sum_at (shifted_sum F t) z 0 ≡ the_sum.left t z (the_sum.finals F t z)
sum_final F t z f =
    shift_last (shift_of t.shifting.kind) t.shifting.block t.shifting.offset (source_of F t.shifting) (low t) (high t) z (sym f.0)
    ∙ ap (λ w. cond w (mul (shift_at (shift_of t.shifting.kind) t.shifting.block t.shifting.offset (low t) z) (extension (source_of F t.shifting) (z ++ high t))) 0)
    (sym (eq-eqb (length z) t.shifting.block (sym f.0)))

closed_long : (b : ℕ) (z point : List ℕ) → b ≡ length z → b ≤ length point → length (z ++ drop b point) ≡ length point
closed_long b z point e l = let a = length-append z (drop b point) in let d = length-drop b point in omega arith

pub sum_lawful : LawfulSumming the_sum
sum_lawful = record {
  last = refl;
  final = sum_final;
  size = λ F t z. refl;
  told = λ F t z f. refl;
  tells = λ F t z v f l h. one_value v l ∙ ap (λ x. x ∷ []) (sym h);
  closed_fits = λ F t z v f l. f.1.1 ∙ ap (λ n. 2 ^ n) (sym (closed_long t.shifting.block z t.point f.0 f.1.0));
  next = λ t z v l. refl;
}

abbrev sum_keeps : KeepsTruth the_sum
sum_keeps = keeps_truth the_sum sum_lawful

at_message : (F : Filling) (s : Shift) (c : CheckKind) (n : ℕ) (es : List Entry) → shift_entries s ≡ Message c n ∷ es → AtMessage shift s n es F
at_message F (waiting f) c n es e = absurd (cc)
at_message F (summed (closed x)) c n es e = absurd (cc)
at_message F (summed (adding t r)) c n es e =
    let h = sum_keeps.message F t r c n es e in
    record { next = h.next; fits = h.fits; sound = h.sound; size = h.size; passes = h.passes; stays = h.stays }

at_draw : (F : Filling) (s : Shift) (k : DrawKind) (n : ℕ) (es : List Entry) → shift_entries s ≡ Draw k n ∷ es → AtDraw shift s n es F
at_draw F (waiting f) k n es e = absurd (cc)
at_draw F (summed (closed x)) k n es e = absurd (cc)
at_draw F (summed (adding t r)) k n es e =
    let h = sum_keeps.draw F t r k n es e in
    record { next = h.next; fits = h.fits; counted = h.counted; stays = h.stays }

round_claimed : (s : Shift) → RoundIsClaimed (shift_entries s) (shift_round s)
round_claimed (waiting f) = refl
round_claimed (summed (adding t r)) = sum_keeps.round t r
round_claimed (summed (closed c)) = refl

pub shift_lawful : Lawful shift
shift_lawful = record { message = at_message; draw = at_draw; round = round_claimed }

-- ---- the sum is the column's value
from_none : (n : ℕ) → n ≡ 0 + n
from_none n = omega arith

values : (vars b : ℕ) (point : List ℕ) → length point ≡ vars → b ≤ vars → 2 ^ vars ≡ 2 ^ length (drop b point) * 2 ^ b
values vars b point e l =
    let d = length-drop b point in
    let s : vars ≡ length (drop b point) + b = omega arith in
    ap (λ n. 2 ^ n) s ∙ pow-add 2 (length (drop b point)) b

sum_is : (F : Filling) (s : Shifting) (claim : ColumnClaim) → IsShifted F s → IsOn s.table s.column s.vars claim
    → extension (F claim.table claim.column) claim.point ≡ sum_at (shifted_sum F (record { shifting = s; point = claim.point })) [] s.block
sum_is F s claim h o =
    (λ i. extension (F (o.table_is i) (o.column_is i)) claim.point)
    ∙ (λ i. extension (h.column_is i) (sym (take-append-drop s.block claim.point) i))
    ∙ ap (λ n. extension (shifted (shift_of s.kind) s.block s.offset n (source_of F s)) (take s.block claim.point ++ drop s.block claim.point)) (values s.vars s.block claim.point o.long h.block_fits)
    ∙ shift_is_sum (shift_of s.kind) s.block s.offset (source_of F s) (take s.block claim.point) (drop s.block claim.point)
    (length-take s.block claim.point ∙ (let l = o.long in let b = h.block_fits in omega arith))

pub shifts_keep : ShiftsKeepTruth
shifts_keep F s claim h o =
    let e = sum_is F s claim h o in
    let within : s.block ≤ length claim.point = (let l = o.long in let b = h.block_fits in omega arith) in (
      (subst (the_sum.fits F (record { shifting = s; point = claim.point })) (from_none s.block) (refl, (within, h.source_long ∙ ap (λ n. 2 ^ n) (sym o.long))), (omega arith, omega arith)),
      ((λ t. sym e ∙ t), (λ t. e ∙ t)),
    )

-- ---- a draw that is due
bind_at : (s : Shifting) (t : Option Shifted) (r : Rounds) (last : Option ColumnClaim) → AwaitsDraw (shift_entries (shift_walk_of s t r last)) → DrawIsDue r
bind_at s None r None h = absurd h
bind_at s (Some t) r None h = draw_due the_sum t r h
bind_at s None r (Some c) h = absurd h
bind_at s (Some t) r (Some c) h = absurd h

pub bind_due : (s : Shifting) (t : Option Shifted) (r : Rounds) (last : Option ColumnClaim) (w : Shift) → shift_walk_of s t r last ≡ w → AwaitsDraw (shift_entries w) → DrawIsDue r
bind_due s t r last w e h = bind_at s t r last (rw e h)
