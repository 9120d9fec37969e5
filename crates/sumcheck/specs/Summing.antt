-- The rounds of a sum claim and the message that ends them, for any sum.
-- Source: docs/REDUCTIONS.md, "A sum".
use Rattle.std.specs.Prelude.{◌≡◌, ℕ, zero, suc, false, List, [], ◌∷◌, ◌++◌, length, Option, None}
use Rattle.cube_laws.specs.SumClaim.{Sum, sum_at}
use Rattle.poly_forms.specs.declared.check_kind.CheckKind.{CheckKind}
use Rattle.poly_forms.specs.declared.draw_kind.DrawKind.{DrawKind}
use Rattle.sumcheck.specs.declared.entry.Entry.{Entry}
use Rattle.sumcheck.specs.declared.entry.Entry.TheVariants.{Message, Draw}
use Rattle.sumcheck.specs.declared.refused.Refused.{Refused}
use Rattle.sumcheck.specs.Claim.{Claim, Terms, sum_value, round_values}
use Rattle.sumcheck.specs.Machine.{Machine, Filling, AtMessage, AtDraw, Lawful, RoundIsClaimed, is_round}
use Rattle.sumcheck.specs.Rounds.{Rounds, sum_claim, round_claim, rounds, checked, round_refusal, rounds_draw, due_claim, RoundsHold, RoundsFit, variables, true_round}

-- what a walk says of its sum. T is what the sum is about, C what is claimed once its last message has passed
pub record Summing (T C : Type 0) : Type 1 where
  -- of the draws, and of the last check
  pub kind : DrawKind
  pub check : CheckKind
  -- how many numbers the last message has
  pub count : T → ℕ
  -- the same as data
  pub terms : T → Terms
  -- a form, and a list for each of its variables
  pub sum : Filling → T → Sum
  -- the filling has the sizes for that many variables
  pub fits : Filling → T → ℕ → Type 0
  -- the last check's left side, of the point and the message; its right side is the claim
  pub left : T → List ℕ → List ℕ → ℕ
  -- the true numbers of the last message, at the point
  pub finals : Filling → T → List ℕ → List ℕ
  -- the claims after it
  pub closed : T → List ℕ → List ℕ → C
  pub closed_fits : Filling → C → Type 0
  pub closed_holds : Filling → C → Type 0
  pub closed_pending : C → List Claim
  -- what remains after it, known before it and then
  pub rest : T → List Entry
  pub afterwards : C → List Entry

-- the sum with its rounds, or what is claimed after it
pub data Summed (T C : Type 0) : Type 0 where
  adding : T → Rounds → Summed T C
  closed : C → Summed T C

abbrev pub summed_entries : {T C : Type 0} → Summing T C → Summed T C → List Entry
summed_entries X (adding t (sum_claim d n z c)) = rounds X.kind d n ++ Message X.check (X.count t) ∷ X.rest t
summed_entries X (adding t (round_claim d n z v)) = Draw X.kind d ∷ (rounds X.kind d n ++ Message X.check (X.count t) ∷ X.rest t)
summed_entries X (closed c) = X.afterwards c

abbrev pub summed_refusal : {T C : Type 0} → Summing T C → Summed T C → List ℕ → Option Refused
summed_refusal X (adding t (sum_claim d zero z c)) v = checked X.check (X.left t z v) c
summed_refusal X (adding t (sum_claim d (suc n) z c)) v = round_refusal c v
summed_refusal X (adding t (round_claim d n z w)) v = None
summed_refusal X (closed c) v = None

abbrev pub summed_message : {T C : Type 0} → Summing T C → Summed T C → List ℕ → Summed T C
summed_message X (adding t (sum_claim d zero z c)) v = closed (X.closed t z v)
summed_message X (adding t (sum_claim d (suc n) z c)) v = adding t (round_claim d n z v)
summed_message X (adding t (round_claim d n z w)) v = adding t (round_claim d n z w)
summed_message X (closed c) v = closed c

abbrev pub summed_draw : {T C : Type 0} → Summed T C → ℕ → Summed T C
summed_draw (adding t r) x = adding t (rounds_draw r x)
summed_draw (closed c) x = closed c

abbrev pub summed_pending : {T C : Type 0} → Summing T C → Summed T C → List Claim
summed_pending X (adding t (sum_claim d n z c)) = sum_value (X.terms t) z c ∷ []
summed_pending X (adding t (round_claim d n z v)) = round_values (X.terms t) z v ∷ []
summed_pending X (closed c) = X.closed_pending c

abbrev pub summed_round : {T C : Type 0} → Summing T C → Summed T C → Option ℕ
summed_round X (adding t r) = due_claim r
summed_round X (closed c) = None

abbrev pub SummedFits : {T C : Type 0} → Summing T C → Filling → Summed T C → Type 0
SummedFits X F (adding t r) = X.fits F t (variables r) × RoundsFit (X.sum F t) r
SummedFits X F (closed c) = X.closed_fits F c

abbrev pub SummedHolds : {T C : Type 0} → Summing T C → Filling → Summed T C → Type 0
SummedHolds X F (adding t r) = RoundsHold (X.sum F t) r
SummedHolds X F (closed c) = X.closed_holds F c

abbrev pub summed_honest : {T C : Type 0} → Summing T C → Filling → Summed T C → List ℕ
summed_honest X F (adding t (sum_claim d zero z c)) = X.finals F t z
summed_honest X F (adding t (sum_claim d (suc n) z c)) = true_round (X.sum F t) d n z
summed_honest X F (adding t (round_claim d n z w)) = []
summed_honest X F (closed c) = []

abbrev pub summing : {T C : Type 0} → Summing T C → Machine (Summed T C)
summing X = record {
  entries = summed_entries X;
  refusal = summed_refusal X;
  after_message = summed_message X;
  after_draw = summed_draw;
  pending = summed_pending X;
  round_claim = summed_round X;
  fits = SummedFits X;
  holds = SummedHolds X;
  honest = summed_honest X;
}

-- what a walk owes of its sum
pub record LawfulSumming {T C : Type 0} (X : Summing T C) : Type 0 where
  -- the last check is no round
  pub last : is_round X.check ≡ false
  -- at a point of all variables the sum is the left side of the true numbers
  pub final : (F : Filling) (t : T) (z : List ℕ) → X.fits F t (length z) → sum_at (X.sum F t) z 0 ≡ X.left t z (X.finals F t z)
  pub size : (F : Filling) (t : T) (z : List ℕ) → length (X.finals F t z) ≡ X.count t
  -- the claims after a last message are true of the true numbers, and of no others
  pub told : (F : Filling) (t : T) (z : List ℕ) → X.fits F t (length z) → X.closed_holds F (X.closed t z (X.finals F t z))
  pub tells : (F : Filling) (t : T) (z v : List ℕ) → X.fits F t (length z) → length v ≡ X.count t → X.closed_holds F (X.closed t z v) → v ≡ X.finals F t z
  pub closed_fits : (F : Filling) (t : T) (z v : List ℕ) → X.fits F t (length z) → length v ≡ X.count t → X.closed_fits F (X.closed t z v)
  pub next : (t : T) (z v : List ℕ) → length v ≡ X.count t → X.afterwards (X.closed t z v) ≡ X.rest t

-- what follows for the rounds and the last message of any sum
pub record KeepsTruth {T C : Type 0} (X : Summing T C) : Type 0 where
  pub message : (F : Filling) (t : T) (r : Rounds) (check : CheckKind) (n : ℕ) (es : List Entry) → summed_entries X (adding t r) ≡ Message check n ∷ es → AtMessage (summing X) (adding t r) n es F
  pub draw : (F : Filling) (t : T) (r : Rounds) (kind : DrawKind) (n : ℕ) (es : List Entry) → summed_entries X (adding t r) ≡ Draw kind n ∷ es → AtDraw (summing X) (adding t r) n es F
  pub round : (t : T) (r : Rounds) → RoundIsClaimed (summed_entries X (adding t r)) (due_claim r)
  -- where nothing remains after the last message, the sum is a reduction of its own
  pub whole : ((c : C) → X.afterwards c ≡ []) → Lawful (summing X)
