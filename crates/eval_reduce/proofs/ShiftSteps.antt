-- Steps of the prover of a shifted column.
use Rattle.std.proofs.Common.{◌≡◌, ◌==◌, ℕ, zero, suc, ◌+◌, ◌-◌, ◌^◌, ◌<◌, ◌≤◌, false, Option, Some, None, List, [], ◌∷◌, ◌++◌, map, length, take, drop, get_or, refl, sym, ◌∙◌, ap, subst, arith}
use Rattle.std.proofs.lemmas.List.{length-drop}
use Rattle.tower_laws.specs.Tower.{mul}
use Rattle.cube_laws.specs.Sums.{sum_to, tabulate}
use Rattle.cube_laws.specs.Extension.{eq, extension, bits_of, fold_low, fold_all, weights}
use Rattle.cube_laws.specs.SumClaim.{AllLong}
use Rattle.cube_laws.proofs.Coordinates.{last_value}
use Rattle.cube_laws.proofs.Tabulate.{get_or-tabulate}
use Rattle.batch_laws.proofs.Parts.{fold_list}
use Rattle.sumcheck.proofs.RowSteps.{same_exponent}
use Rattle.cube_laws.proofs.Weights.{length-tabulate, sum_to-same, weights_at}
use Rattle.shift_laws.specs.Shifts.{Shift as Kind, flag, goes, shift_sum}
use Rattle.shift_laws.proofs.Moves.{sum_none, sum_one}
use Rattle.cube_mle.specs.Moving.{shift_of}
use Rattle.sumcheck.specs.declared.column_claim.ColumnClaim.{ColumnClaim}
use Rattle.sumcheck.specs.declared.summand.Pair.{Pair}
use Rattle.sumcheck.specs.Machine.{Filling, AwaitsSome, AwaitsDraw}
use Rattle.sumcheck.specs.Rounds.{Rounds, sum_claim, round_claim, with_claim, claimed}
use Rattle.sumcheck.specs.Summing.{adding, closed}
use Rattle.sumcheck.specs.Proving.{Proving, Goes}
use Rattle.sumcheck.specs.Pair.{pair_form}
use Rattle.sumcheck.proofs.Following.{goes_last, goes_first, draw_left}
use Rattle.eval_reduce.specs.Ending.{CanTell, Ending, Gives, GoesOn, Tells, drawn, second, told_claim}
use Rattle.eval_reduce.specs.declared.shift_prover.ShiftProver.{ShiftProver}
use Rattle.eval_reduce.specs.declared.shifting.Shifting.{Shifting}
use Rattle.eval_reduce.specs.Shift.{Shift, Shifted, high, shift_draw, shift_entries, shift_honest, shift_message, shifted_sum, source_of, summed, the_sum, waiting}
use Rattle.eval_reduce.specs.ShiftProver.{FollowsBlock, HoldsBlock, on_source}
use Rattle.eval_reduce.proofs.EndingSteps.{CanSet, can_set, can_tell, draw_kept, last_told, round_passes}

-- ---- where values go
indicated : (n : ℕ) (f : ℕ → ℕ) (low : List ℕ) → n ≡ 2 ^ length low → extension (tabulate n f) low ≡ sum_to n (λ q. mul (f q) (eq low q))
indicated n f low e = ap (λ m. sum_to m (λ q. mul (get_or (tabulate n f) q 0) (eq low q))) (sym e) ∙ sum_to-same n _ _ (λ q l. ap (λ v. mul v (eq low q)) (get_or-tabulate n q f l))

pub value_stays : (s : Kind) (b o p t : ℕ) (low : List ℕ) → length low ≡ b → t < 2 ^ b → ((q : ℕ) → q < 2 ^ b → goes s b o q p ≡ (q == t)) → get_or (weights low) t 0 ≡ extension (tabulate (2 ^ b) (λ q. flag (goes s b o q p))) low
value_stays s b o p t low e l h =
    let n : 2 ^ b ≡ 2 ^ length low = ap (λ k. 2 ^ k) (sym e) in
    weights_at low t (subst (λ m. t < m) n l) ∙ sym (indicated (2 ^ b) (λ q. flag (goes s b o q p)) low n ∙ sum_one (2 ^ b) t (λ q. goes s b o q p) (eq low) l h)

pub value_leaves : (s : Kind) (b o p : ℕ) (low : List ℕ) → length low ≡ b → ((q : ℕ) → q < 2 ^ b → goes s b o q p ≡ false) → 0 ≡ extension (tabulate (2 ^ b) (λ q. flag (goes s b o q p))) low
value_leaves s b o p low e h = sym (indicated (2 ^ b) (λ q. flag (goes s b o q p)) low (ap (λ k. 2 ^ k) (sym e)) ∙ sum_none (2 ^ b) (λ q. goes s b o q p) (eq low) h)

-- ---- what follows
abbrev pub begun : Shifting → List ℕ → List ℕ → Proving Pair
begun s point source = record { summand = record {}; degree = 2; left = s.block; lists = (shift_sum (shift_of s.kind) s.block s.offset source (take s.block point) (drop s.block point)).lists }

claimed_is : (n : ℕ) (r : Rounds) → with_claim 0 r ≡ sum_claim 2 n [] 0 → r ≡ sum_claim 2 n [] (claimed r)
claimed_is n (sum_claim d m z c) h = let a : d ≡ 2 = cc in let b : m ≡ n = cc in let e : z ≡ [] = cc in cc
claimed_is n (round_claim d m z v) h = absurd (cc)

pub tables_long : (t : Shifted) (source : List ℕ) → AllLong (2 ^ t.shifting.block) (shift_sum (shift_of t.shifting.kind) t.shifting.block t.shifting.offset source (take t.shifting.block t.point) (drop t.shifting.block t.point)).lists
tables_long t source = (length-tabulate (2 ^ t.shifting.block) _, (length-tabulate (2 ^ t.shifting.block) _, tt))

start_goes : (p : ShiftProver) (F : Filling) (t : Shifted) (c : ℕ) → HoldsBlock p F t → Goes pair_form (begun p.shifting p.point.items p.source.items) (shifted_sum F t) (sum_claim 2 t.shifting.block [] c)
start_goes p F t c h =
    goes_first pair_form (begun p.shifting p.point.items p.source.items) (shifted_sum F t) 2 t.shifting.block c refl refl (ap (λ (s : Shifting). s.block) h.same)
    (λ i. (begun (h.same i) (h.at i) (h.source i)).lists) (tables_long t (source_of F t.shifting))

-- what was drawn or told makes no difference
holds_still : (p next : ShiftProver) (o : Option (Proving Pair)) (e : Ending) (F : Filling) (t : Shifted) → next ≡ record p { sum = o; ending = e } → HoldsBlock p F t → HoldsBlock next F t
holds_still p next o e F t same h =
    subst (λ (q : ShiftProver). HoldsBlock q F t) (sym same)
    (record { small = h.small; within = h.within; same = h.same; source = h.source; at = h.at; block = h.block; all = h.all; long = h.long })

from_none : (n : ℕ) → 0 + n ≡ n
from_none n = omega arith

pub start_follows : (p next : ShiftProver) (q : Proving Pair) → next ≡ record p { sum = Some q; ending = p.ending } → q ≡ begun p.shifting p.point.items p.source.items → (F : Filling) (s : Shift) → FollowsBlock p None F s → AwaitsSome (shift_entries s) → FollowsBlock next (Some q) F s
start_follows p next q n e F (waiting s) h w = absurd h
start_follows p next q n e F (summed (closed c)) h w = absurd h
start_follows p next q n e F (summed (adding t r)) h w = (
  subst (λ q. GoesOn q next.ending (shifted_sum F t) (on_source t) t.shifting.block r) (sym e)
      (subst (GoesOn (begun p.shifting p.point.items p.source.items) next.ending (shifted_sum F t) (on_source t) t.shifting.block) (sym (claimed_is t.shifting.block r h.0.0))
      (record { goes = start_goes p F t (claimed r) h.1; ending = ap (λ (x : ShiftProver). x.ending) n ∙ h.0.1; vars = from_none t.shifting.block })),
  holds_still p next (Some q) p.ending F t n h.1,
)

held_within : (p : ShiftProver) (F : Filling) (t : Shifted) → HoldsBlock p F t → p.shifting.block ≤ length p.point.items
held_within p F t h = let a = ap (λ (s : Shifting). s.block) h.same in let b = ap length h.at in let c = h.block in omega arith

-- what the tables are made from
pub record Facts (p : ShiftProver) : Type 0 where
  pub small : p.shifting.block ≤ 7
  pub within : p.shifting.offset < 2 ^ p.shifting.block
  pub block : p.shifting.block ≤ length p.point.items
  pub long : length p.source.items ≡ 2 ^ length p.point.items

pub start_facts : (p : ShiftProver) (F : Filling) (s : Shift) → FollowsBlock p None F s → AwaitsSome (shift_entries s) → Facts p
start_facts p F (waiting s) h w = absurd h
start_facts p F (summed (closed c)) h w = absurd h
start_facts p F (summed (adding t r)) h w =
    let k = h.1 in
    record {
      small = k.small;
      within = k.within;
      block = held_within p F t k;
      long = ap length k.source ∙ k.long ∙ ap (λ z. 2 ^ length z) (sym k.at);
    }

-- ---- a draw
pub none_drawn : (p : ShiftProver) (F : Filling) (s : Shift) → FollowsBlock p None F s → AwaitsDraw (shift_entries s) → ⊥
none_drawn p F (waiting s) h w = h
none_drawn p F (summed (closed c)) h w = h
none_drawn p F (summed (adding t (sum_claim d zero z c))) h w = w
none_drawn p F (summed (adding t (sum_claim d (suc n) z c))) h w = w
none_drawn p F (summed (adding t (round_claim d n z v))) h w = let e = h.0.0 in cc

pub draw_goes_on : (now next : ShiftProver) (p q : Proving Pair) (x : ℕ) → q ≡ record p { left = p.left - 1; lists = map (fold_low x) p.lists } → next ≡ record now { sum = Some q; ending = next.ending } → next.ending ≡ drawn now.ending (now.ending.draws ++ x ∷ [])
    → (F : Filling) (s : Shift) → FollowsBlock now (Some p) F s → AwaitsDraw (shift_entries s) → FollowsBlock next (Some q) F (shift_draw s x)
draw_goes_on now next p q x a n b F (waiting s) h w = absurd h
draw_goes_on now next p q x a n b F (summed (adding t r)) h w = (draw_kept the_sum p q now.ending next.ending (on_source t) t.shifting.block x a b F t r h.0 w, holds_still now next (Some q) next.ending F t n h.1)
draw_goes_on now next p q x a n b F (summed (closed c)) h w = absurd w

block_fits : (p : ShiftProver) (F : Filling) (t : Shifted) → HoldsBlock p F t → t.shifting.block ≤ t.shifting.vars
block_fits p F t h = let a = h.block in let b = h.all in omega arith

pub draw_possible : (now : ShiftProver) (p : Proving Pair) (F : Filling) (s : Shift) → FollowsBlock now (Some p) F s → AwaitsDraw (shift_entries s) → (0 < p.left) × CanSet now.ending
draw_possible now p F (waiting s) h w = absurd h
draw_possible now p F (summed (adding t r)) h w = (draw_left the_sum pair_form p F t r h.0.goes w, can_set the_sum p now.ending (on_source t) (shifted_sum F t) t.shifting.block t r refl (block_fits now F t h.1) h.0 w)
draw_possible now p F (summed (closed c)) h w = absurd w

-- ---- a message
-- the extension of the values at the corners
corners_at : (b : ℕ) (c high z : List ℕ) → length z ≡ b → extension (tabulate (2 ^ b) (λ p. extension c (bits_of b p ++ high))) z ≡ extension c (z ++ high)
corners_at b c high z e =
    let table = tabulate (2 ^ b) (λ p. extension c (bits_of b p ++ high)) in
    sym (last_value table z (length-tabulate (2 ^ b) (λ p. extension c (bits_of b p ++ high)) ∙ ap (λ n. 2 ^ n) (sym e)))
    ∙ ap (λ n. get_or (fold_all z (tabulate (2 ^ n) (λ p. extension c (bits_of n p ++ high)))) 0 0) (sym e) ∙ ap (λ t. get_or t 0 0) (fold_list c z high)

-- the second table's value is the source's extension at the draws and the high coordinates
source_value : (F : Filling) (p : Proving Pair) (t : Shifted) (d : ℕ) (z : List ℕ) (c : ℕ) → Goes pair_form p (shifted_sum F t) (sum_claim d zero z c) → second p ≡ extension (source_of F t.shifting) (z ++ high t)
source_value F p t d z c h = goes_last pair_form p (shifted_sum F t) d 1 z c (omega arith) h ∙ corners_at t.shifting.block (source_of F t.shifting) (high t) z long
  where
    long : length z ≡ t.shifting.block
    long =
        let k : length z + 0 ≡ length z = omega arith in
        same_exponent (length z) t.shifting.block (ap (λ n. 2 ^ n) (sym k) ∙ sym h.long.0 ∙ length-tabulate (2 ^ t.shifting.block) _)

pub block_within : (now : ShiftProver) (q : Option (Proving Pair)) (F : Filling) (s : Shift) → FollowsBlock now q F s → AwaitsSome (shift_entries s) → now.shifting.block ≤ length now.point.items
block_within now q F (waiting s) h w = absurd h
block_within now q F (summed (closed c)) h w = absurd w
block_within now None F (summed (adding t r)) h w = held_within now F t h.1
block_within now (Some p) F (summed (adding t r)) h w = held_within now F t h.1

pub record CanGive (now : ShiftProver) (p : Proving Pair) (rest : List ℕ) : Type 0 where
  pub two : length p.lists ≡ 2
  pub tells : p.left ≡ 0 → CanTell now.ending rest

same_rest : (p : ShiftProver) (F : Filling) (t : Shifted) (rest : List ℕ) → HoldsBlock p F t → rest ≡ drop p.shifting.block p.point.items → rest ≡ high t
same_rest p F t rest h e = e ∙ (λ i. drop (h.same i).block (h.at i))

pub can_give : (now : ShiftProver) (p : Proving Pair) (rest : List ℕ) → rest ≡ drop now.shifting.block now.point.items → (F : Filling) (s : Shift) → FollowsBlock now (Some p) F s → AwaitsSome (shift_entries s) → CanGive now p rest
can_give now p rest e F (waiting s) h w = absurd h
can_give now p rest e F (summed (closed c)) h w = absurd w
can_give now p rest e F (summed (adding t r)) h w =
    let k = ap length (same_rest now F t rest h.1 e) ∙ length-drop t.shifting.block t.point in
    let a = h.1.all in
    let b = h.1.block in
    record { two = ap length h.0.goes.lists; tells = can_tell p now.ending (on_source t) (shifted_sum F t) t.shifting.block rest r refl (omega arith) h.0 }

pub message_values : (now next : ShiftProver) (p : Proving Pair) (rest old new : List ℕ) → rest ≡ drop now.shifting.block now.point.items → Gives p rest now.ending next.ending old new
    → (F : Filling) (s : Shift) → FollowsBlock now (Some p) F s → AwaitsSome (shift_entries s) → new ≡ old ++ shift_honest F s
message_values now next p rest old new e g F (waiting s) h w = absurd h
message_values now next p rest old new e g F (summed (closed c)) h w = absurd w
message_values now next p rest old new e g F (summed (adding t (sum_claim d zero z c))) h w =
    (last_told p rest now.ending next.ending (on_source t) old new (shifted_sum F t) t.shifting.block d z c (extension (source_of F t.shifting) (z ++ high t)) g h.0 (source_value F p t d z c h.0.goes)).0
message_values now next p rest old new e g F (summed (adding t (sum_claim d (suc n) z c))) h w = (round_passes p rest now.ending next.ending (on_source t) old new (shifted_sum F t) t.shifting.block d n z c g h.0).0
message_values now next p rest old new e g F (summed (adding t (round_claim d n z v))) h w = absurd w

pub message_follows : (now next : ShiftProver) (p : Proving Pair) (rest old new : List ℕ) → rest ≡ drop now.shifting.block now.point.items → next ≡ record now { sum = Some p; ending = next.ending } → Gives p rest now.ending next.ending old new
    → (F : Filling) (s : Shift) → FollowsBlock now (Some p) F s → AwaitsSome (shift_entries s) → FollowsBlock next (Some p) F (shift_message s (shift_honest F s))
message_follows now next p rest old new e n g F (waiting s) h w = absurd h
message_follows now next p rest old new e n g F (summed (closed c)) h w = absurd w
message_follows now next p rest old new e n g F (summed (adding t (sum_claim d zero z c))) h w =
    let v = extension (source_of F t.shifting) (z ++ high t) in
    let k = last_told p rest now.ending next.ending (on_source t) old new (shifted_sum F t) t.shifting.block d z c v g h.0 (source_value F p t d z c h.0.goes) in
    record { told = k.1 ∙ ap (λ rest. Some (told_claim (drawn (on_source t) z) rest v)) (same_rest now F t rest h.1 e); holds = refl }
message_follows now next p rest old new e n g F (summed (adding t (sum_claim d (suc m) z c))) h w =
    ((round_passes p rest now.ending next.ending (on_source t) old new (shifted_sum F t) t.shifting.block d m z c g h.0).1, holds_still now next (Some p) next.ending F t n h.1)
message_follows now next p rest old new e n g F (summed (adding t (round_claim d m z v))) h w = absurd w

-- ---- at the end
pub at_end : (p : ShiftProver) (q : Option (Proving Pair)) (F : Filling) (c : ColumnClaim) → FollowsBlock p q F (summed (closed c)) → Tells p.ending F c
at_end p None F c h = absurd h
at_end p (Some q) F c h = h
