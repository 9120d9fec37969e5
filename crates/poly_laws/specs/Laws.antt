-- The laws of polynomials, as statements.
-- Source: docs/LAWS.md, "poly_laws: polynomials in one variable".
use Rattle.std.specs.Prelude.{◌≡◌, ◌<◌, ◌+◌, ◌-◌, ℕ, List, [], ◌∷◌, map, length, slice_index, bit_xor}
use Rattle.std.specs.List.{AllByRecursion}
use Rattle.tower_laws.specs.Tower.{Fits, mul}
use Rattle.tower_laws.specs.Lists.{sum_all, sums, AllFit}
use Rattle.counting_laws.specs.Counting.{AtMost}
use Rattle.poly_laws.specs.Polynomial.{horner, terms, Polynomial}
use Rattle.poly_laws.specs.Interpolation.{at}

-- the value of a polynomial is the sum of its coefficients c_i times x ^ i
abbrev pub ValueIsSum : Type 0
ValueIsSum = (cs : List ℕ) (x : ℕ) → horner cs x ≡ sum_all (terms 0 cs x)

-- values worked out by hand: 1 + x² at 4, whose square is 9, from its coefficients and from its values at 0, 1 and 2
pub record AreWorked : Type 0 where
  pub from_coefficients : horner (1 ∷ 0 ∷ 1 ∷ []) 4 ≡ 8
  pub from_values : at (1 ∷ 0 ∷ 2 ∷ []) 4 ≡ 8

-- a polynomial has fewer roots than coefficients, unless all its coefficients are 0
abbrev pub RootsAreFew : Type 0
RootsAreFew = (cs : List ℕ) → ¬ AllByRecursion (λ c. c ≡ 0) cs → AtMost (length cs - 1) (λ x. horner cs x ≡ 0)

-- degrees of sums and products
pub record HaveDegrees : Type 0 where
  pub sum : (d : ℕ) (f g : ℕ → ℕ) → Polynomial d f → Polynomial d g → Polynomial d (λ x. bit_xor (f x) (g x))
  pub product : (d e : ℕ) (f g : ℕ → ℕ) → Polynomial d f → Polynomial e g → Polynomial (d + e) (λ x. mul (f x) (g x))

-- `at` is the one polynomial of its degree through the values
pub record IsInterpolation : Type 0 where
  pub through : (values : List ℕ) (k : ℕ) → k < length values → at values k ≡ slice_index values k
  pub degree : (values : List ℕ) → 0 < length values → Polynomial (length values - 1) (at values)
  pub only : (d : ℕ) (f : ℕ → ℕ) (values : List ℕ) → length values ≡ d + 1 → Polynomial d f → ((k : ℕ) → k < length values → slice_index values k ≡ f k) → (x : ℕ) → at values x ≡ f x

-- values joined by the powers of a number: linear in the values, of their level, and seldom equal where the values differ
pub record AreBatches : Type 0 where
  pub sum : (xs ys : List ℕ) (a : ℕ) → horner (sums xs ys) a ≡ bit_xor (horner xs a) (horner ys a)
  pub multiple : (c : ℕ) (xs : List ℕ) (a : ℕ) → horner (map (mul c) xs) a ≡ mul c (horner xs a)
  pub fits : (i a : ℕ) (xs : List ℕ) → Fits i a → AllFit i xs → Fits i (horner xs a)
  pub differ : (xs ys : List ℕ) → length xs ≡ length ys → ¬ (xs ≡ ys) → AtMost (length xs - 1) (λ a. horner xs a ≡ horner ys a)
