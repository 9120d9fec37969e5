-- Tables and claims joined by the powers of one number.
-- Source: docs/LAWS.md, "batch_laws: parts of tables, and many as one".
use Rattle.std.specs.Prelude.{ℕ, List, [], ◌∷◌, map}
use Rattle.tower_laws.specs.Tower.{mul}
use Rattle.tower_laws.specs.Lists.{sums}
use Rattle.cube_laws.specs.Sums.{tabulate}
use Rattle.cube_laws.specs.Extension.{weights}
use Rattle.cube_laws.specs.Form.{Form, constant, variable, plus, times, value, moved}
use Rattle.cube_laws.specs.SumClaim.{Sum, row}

-- n zeros
abbrev pub zeros : ℕ → List ℕ
zeros n = tabulate n (λ p. 0)

-- of tables of n numbers, the sum of a ^ j times table j
abbrev pub batched : ℕ → ℕ → List (List ℕ) → List ℕ
batched n a [] = zeros n
batched n a (t ∷ ts) = sums t (map (mul a) (batched n a ts))

-- the sum of a ^ j times form j
abbrev pub batch_form : ℕ → List Form → Form
batch_form a [] = constant 0
batch_form a (f ∷ fs) = plus f (times (constant a) (batch_form a fs))

-- the sum over a cube of the product of the extensions of two tables
abbrev pub pair_sum : List ℕ → List ℕ → Sum
pair_sum f g = record { form = times (variable 0) (variable 1); lists = f ∷ g ∷ [] }

-- the values of a form at n positions of tables
abbrev pub values_of : ℕ → Form → List (List ℕ) → List ℕ
values_of n form lists = tabulate n (λ p. value form (row lists p))

-- the sum over a cube of eq of z times the form of the extensions of tables
abbrev pub eq_sum : List ℕ → Form → List (List ℕ) → Sum
eq_sum z form lists = record { form = times (variable 0) (moved form); lists = weights z ∷ lists }
