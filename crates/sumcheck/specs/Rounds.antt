-- The rounds of a sum claim, whatever is summed.
-- Source: Diamond and Posen, ePrint 2023/1784, the section on the sumcheck; docs/REDUCTIONS.md, "Rounds".
use Rattle.std.specs.Prelude.{◌≡◌, ◌≤◌, ◌<◌, ℕ, zero, suc, ◌+◌, List, [], ◌∷◌, ◌++◌, length, bit_xor, slice_index, eqb, true, false, Bool, Option, Some, None}
use Rattle.poly_laws.specs.Interpolation.{at}
use Rattle.cube_laws.specs.Sums.{tabulate}
use Rattle.cube_laws.specs.Form.{degree}
use Rattle.cube_laws.specs.SumClaim.{Sum, sum_at, round_at, IsRound}
use Rattle.poly_forms.specs.declared.check_kind.CheckKind.{CheckKind}
use Rattle.poly_forms.specs.declared.check_kind.CheckKind.TheVariants.{RoundSum}
use Rattle.poly_forms.specs.declared.draw_kind.DrawKind.{DrawKind}
use Rattle.sumcheck.specs.declared.entry.Entry.{Entry}
use Rattle.sumcheck.specs.declared.entry.Entry.TheVariants.{Message, Draw}
use Rattle.sumcheck.specs.declared.refused.Refused.{Refused}

-- the sum claim that stands, or the round claim between a round and its draw. The variables of the point are set, and `left` more are summed over
pub data Rounds : Type 0 where
  sum_claim : (degree left : ℕ) → (point : List ℕ) → (value : ℕ) → Rounds
  round_claim : (degree left : ℕ) → (point values : List ℕ) → Rounds

-- the rounds of n variables: each a message of the values at 0, 1, .., d and a draw of count d
abbrev pub rounds : DrawKind → ℕ → ℕ → List Entry
rounds kind d zero = []
rounds kind d (suc n) = Message RoundSum (suc d) ∷ Draw kind d ∷ rounds kind d n

-- no refusal where the two sides are equal
abbrev pub unless_equal : Bool → Refused → Option Refused
unless_equal true e = None
unless_equal false e = Some e

abbrev pub checked : CheckKind → ℕ → ℕ → Option Refused
checked check left right = unless_equal (eqb left right) (record { check = check; left = left; right = right })

-- a round is refused where its values at 0 and 1 don't add up to the claim
abbrev pub round_refusal : ℕ → List ℕ → Option Refused
round_refusal claim v = checked RoundSum (bit_xor (slice_index v 0) (slice_index v 1)) claim

abbrev pub rounds_refusal : Rounds → List ℕ → Option Refused
rounds_refusal (sum_claim d n z c) v = round_refusal c v
rounds_refusal (round_claim d n z w) v = None

abbrev pub rounds_message : Rounds → List ℕ → Rounds
rounds_message (sum_claim d zero z c) v = sum_claim d zero z c
rounds_message (sum_claim d (suc n) z c) v = round_claim d n z v
rounds_message (round_claim d n z w) v = round_claim d n z w

-- after a draw the claim is the value there of the polynomial through the round's values
abbrev pub rounds_draw : Rounds → ℕ → Rounds
rounds_draw (sum_claim d n z c) r = sum_claim d n z c
rounds_draw (round_claim d n z v) r = sum_claim d n (z ++ r ∷ []) (at v r)

-- ---- truth
-- the sum is the value; the polynomial through the values is the round polynomial
abbrev pub RoundsHold : Sum → Rounds → Type 0
RoundsHold s (sum_claim d n z c) = sum_at s z n ≡ c
RoundsHold s (round_claim d n z v) = IsRound s z n v

-- the form's degree is within the degree of the rounds
abbrev pub RoundsFit : Sum → Rounds → Type 0
RoundsFit s (sum_claim d n z c) = (0 < d) × (degree s.form ≤ d)
RoundsFit s (round_claim d n z v) = ((0 < d) × (degree s.form ≤ d)) × (length v ≡ suc d)

-- the true values of a round at 0, 1, .., d
abbrev pub true_round : Sum → ℕ → ℕ → List ℕ → List ℕ
true_round s d n z = tabulate (suc d) (round_at s z n)

-- ---- what rounds show
-- how many variables there are in all
abbrev pub variables : Rounds → ℕ
variables (sum_claim d n z c) = length z + n
variables (round_claim d n z v) = length z + suc n

-- the draws so far
abbrev pub bound : Rounds → List ℕ
bound (sum_claim d n z c) = z
bound (round_claim d n z v) = z

abbrev pub round_degree : Rounds → ℕ
round_degree (sum_claim d n z c) = d
round_degree (round_claim d n z v) = d

-- how many variables are summed over
abbrev pub left_over : Rounds → ℕ
left_over (sum_claim d n z c) = n
left_over (round_claim d n z v) = n

-- a round has passed since the last draw
abbrev pub has_passed : Rounds → Bool
has_passed (sum_claim d n z c) = false
has_passed (round_claim d n z v) = true

-- the value of the sum claim that stands
abbrev pub claimed : Rounds → ℕ
claimed (sum_claim d n z c) = c
claimed (round_claim d n z v) = 0

-- the values of the round that has passed
abbrev pub passed_values : Rounds → List ℕ
passed_values (sum_claim d n z c) = []
passed_values (round_claim d n z v) = v

-- the claim of the round that is due
abbrev pub due_claim : Rounds → Option ℕ
due_claim (sum_claim d zero z c) = None
due_claim (sum_claim d (suc n) z c) = Some c
due_claim (round_claim d n z v) = None

-- the same rounds of another sum
abbrev pub with_claim : ℕ → Rounds → Rounds
with_claim c (sum_claim d n z e) = sum_claim d n z c
with_claim c (round_claim d n z v) = round_claim d n z v

-- what the fields of rounds stand for; there are passed values from a round to its draw
abbrev pub rounds_of : ℕ → ℕ → List ℕ → ℕ → List ℕ → Rounds
rounds_of d n z c [] = sum_claim d n z c
rounds_of d n z c (p ∷ ps) = round_claim d n z (p ∷ ps)

-- ---- what is due
-- no round has passed or been bound
abbrev pub IsFresh : Rounds → Type 0
IsFresh (sum_claim d n z c) = z ≡ []
IsFresh (round_claim d n z v) = ⊥

-- a round of m values is due
abbrev pub RoundIsDue : ℕ → Rounds → Type 0
RoundIsDue m (sum_claim d zero z c) = ⊥
RoundIsDue m (sum_claim d (suc n) z c) = m ≡ suc d
RoundIsDue m (round_claim d n z v) = ⊥

abbrev pub DrawIsDue : Rounds → Type 0
DrawIsDue (sum_claim d n z c) = ⊥
DrawIsDue (round_claim d n z v) = Unit {0}
