-- Degree and roots of the polynomial with given coefficients, the lowest first.
-- Source: docs/LAWS.md, "poly_laws: polynomials in one variable".
use Rattle.std.specs.Prelude.{◌≡◌, ◌≢◌, ◌<◌, ℕ, List, slice_index}
use Rattle.std.specs.List.{AllByRecursion}
use Rattle.poly_laws.specs.Polynomial.{horner}

-- some coefficient is not 0
abbrev pub IsNonzero : List ℕ → Type 0
IsNonzero coefficients = ¬ AllByRecursion (λ c. c ≡ 0) coefficients

-- the polynomial is 0 at each of the numbers
abbrev pub AreRoots : List ℕ → List ℕ → Type 0
AreRoots coefficients numbers = AllByRecursion (λ x. horner coefficients x ≡ 0) numbers

-- the coefficient at d is not 0, and each after it is
abbrev pub IsDegree : List ℕ → ℕ → Type 0
IsDegree coefficients d = (slice_index coefficients d ≢ 0) × ((k : ℕ) → d < k → slice_index coefficients k ≡ 0)
