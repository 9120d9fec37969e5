-- Sums over cubes of a form of the extensions of tables.
-- Source: Diamond and Posen, ePrint 2023/1784, the section on the sumcheck; docs/LAWS.md, "cube_laws: tables over cubes".
use Rattle.std.specs.Prelude.{◌≡◌, ℕ, zero, suc, List, [], ◌∷◌, ◌++◌, map, length, slice_index, bit_xor}
use Rattle.cube_laws.specs.Extension.{extension}
use Rattle.cube_laws.specs.Form.{Form, value}
use Rattle.poly_laws.specs.Interpolation.{at}

-- the sum of f over all corners of the cube of n variables
unfoldable pub cube_sum : ℕ → (List ℕ → ℕ) → ℕ
cube_sum zero f = f []
cube_sum (suc n) f = bit_xor (cube_sum n (λ x. f (0 ∷ x))) (cube_sum n (λ x. f (1 ∷ x)))

-- a form, and a list of values for each of its variables
pub record Sum : Type 0 where
  pub form : Form
  pub lists : List (List ℕ)

-- the form of the extensions of the lists at a point
abbrev pub summand : Sum → List ℕ → ℕ
summand s z = value s.form (map (λ f. extension f z) s.lists)

-- with the first variables set by the prefix, the sum over all corners of those left
abbrev pub sum_at : Sum → List ℕ → ℕ → ℕ
sum_at s prefix left = cube_sum left (λ x. summand s (prefix ++ x))

-- the same sum with the variable after the prefix set to r, and those left after it summed over
abbrev pub round_at : Sum → List ℕ → ℕ → ℕ → ℕ
round_at s prefix left r = cube_sum left (λ x. summand s (prefix ++ r ∷ x))

-- the polynomial through the values at 0, 1, 2, .. is the round polynomial
abbrev pub IsRound : Sum → List ℕ → ℕ → List ℕ → Type 0
IsRound s prefix left values = (x : ℕ) → at values x ≡ round_at s prefix left x

-- the numbers of the lists at a position
abbrev pub row : List (List ℕ) → ℕ → List ℕ
row lists p = map (λ f. slice_index f p) lists

-- all lists have n numbers
abbrev pub AllLong : ℕ → List (List ℕ) → Type 0
AllLong n [] = Unit {0}
AllLong n (f ∷ fs) = (length f ≡ n) × AllLong n fs
