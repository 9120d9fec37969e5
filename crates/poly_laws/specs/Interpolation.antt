-- Polynomials through values at 0, 1, 2, ..
-- Source: docs/LAWS.md, "poly_laws: polynomials in one variable".
use Rattle.std.specs.Prelude.{ℕ, zero, suc, eqb, true, false, List, [], ◌∷◌, length, bit_xor}
use Rattle.tower_laws.specs.Tower.{mul}
use Rattle.tower_laws.specs.Inverse.{inverse}

-- of the points below n, the polynomial that is 1 at i and 0 at the others
unfoldable pub basis : ℕ → ℕ → ℕ → ℕ
basis zero i x = 1
basis (suc j) i x = elim (eqb i j) [ true ↦ basis j i x | false ↦ mul (mul (bit_xor x j) (inverse (bit_xor i j))) (basis j i x) ]

-- the sum of the values times their basis polynomials, the first value being that at i
unfoldable pub interpolated : ℕ → ℕ → List ℕ → ℕ → ℕ
interpolated n i [] x = 0
interpolated n i (v ∷ vs) x = bit_xor (mul v (basis n i x)) (interpolated n (suc i) vs x)

-- the value at x of the polynomial through the values at the points 0, 1, 2, ..
unfoldable pub at : List ℕ → ℕ → ℕ
at values x = interpolated (length values) 0 values x
