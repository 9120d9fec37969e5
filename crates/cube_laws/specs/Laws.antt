-- The laws of extensions and of sums over cubes, as statements.
-- Source: docs/LAWS.md, "cube_laws: tables over cubes".
use Rattle.std.specs.Prelude.{◌≡◌, ◌≤◌, ◌<◌, ◌^◌, ℕ, suc, List, [], ◌∷◌, ◌++◌, map, length, get_or, bit_xor}
use Rattle.counting_laws.specs.Counting.{AtMost}
use Rattle.poly_laws.specs.Polynomial.{Polynomial}
use Rattle.poly_laws.specs.Interpolation.{at}
use Rattle.cube_laws.specs.Sums.{sum_to}
use Rattle.cube_laws.specs.Extension.{eq, weights, extension, extension_by_weights, fold_low, bits_of}
use Rattle.cube_laws.specs.Form.{Form, value, degree}
use Rattle.cube_laws.specs.SumClaim.{Sum, cube_sum, sum_at, round_at, IsRound, row, AllLong}

-- the quick form of an extension is the extension
abbrev pub QuickExtension : Type 0
QuickExtension = (table z : List ℕ) → extension_by_weights table z ≡ extension table z

-- values worked out by hand, at the point 4
pub record AreWorked : Type 0 where
  pub weights_are : weights (4 ∷ []) ≡ 5 ∷ 4 ∷ []
  pub eq_is : eq (4 ∷ []) 0 ≡ 5
  pub extension_is : extension (1 ∷ 2 ∷ []) (4 ∷ []) ≡ 13

-- at the corner of a position the extension is the table's value there
abbrev pub ExtensionAtCorners : Type 0
ExtensionAtCorners = (n p : ℕ) (table : List ℕ) → length table ≡ 2 ^ n → p < 2 ^ n → extension table (bits_of n p) ≡ get_or table p 0

-- setting the lowest variable of a table sets the first coordinate of its extension
abbrev pub ExtensionOfFold : Type 0
ExtensionOfFold = (table : List ℕ) (x : ℕ) (xs : List ℕ) → length table ≡ 2 ^ suc (length xs) → extension table (x ∷ xs) ≡ extension (fold_low x table) xs

-- of two lists that differ, setting the lowest variable makes them equal for at most one number
abbrev pub FoldsDiffer : Type 0
FoldsDiffer = (xs ys : List ℕ) → length xs ≡ length ys → ¬ (xs ≡ ys) → AtMost 1 (λ r. fold_low r xs ≡ fold_low r ys)

-- a sum over a cube is the sum over the positions of the tables
abbrev pub CubeSumIsSum : Type 0
CubeSumIsSum = (n : ℕ) (form : Form) (fs : List (List ℕ)) → AllLong (2 ^ n) fs → cube_sum n (λ x. value form (map (λ f. extension f x) fs)) ≡ sum_to (2 ^ n) (λ p. value form (row fs p))

-- a round of the sum claim: its degree, its values at 0 and 1, and how many draws hide a wrong one
pub record AreRounds : Type 0 where
  pub degrees : (s : Sum) (prefix : List ℕ) (left : ℕ) → Polynomial (degree s.form) (round_at s prefix left)
  pub halves : (s : Sum) (prefix : List ℕ) (left : ℕ) → sum_at s prefix (suc left) ≡ bit_xor (round_at s prefix left 0) (round_at s prefix left 1)
  pub bound : (s : Sum) (prefix : List ℕ) (left r : ℕ) → sum_at s (prefix ++ r ∷ []) left ≡ round_at s prefix left r
  pub counted : (s : Sum) (prefix : List ℕ) (left d : ℕ) (values : List ℕ) → degree s.form ≤ d → length values ≡ suc d → ¬ IsRound s prefix left values → AtMost d (λ r. sum_at s (prefix ++ r ∷ []) left ≡ at values r)
