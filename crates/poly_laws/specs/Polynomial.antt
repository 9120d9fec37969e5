-- Polynomials by their coefficients, the lowest first.
-- Source: docs/LAWS.md, "poly_laws: polynomials in one variable".
use Rattle.std.specs.Prelude.{◌≡◌, ◌≤◌, ℕ, zero, suc, List, [], ◌∷◌, length, bit_xor}
use Rattle.tower_laws.specs.Tower.{mul}

-- the value at x of the polynomial with these coefficients, c_0 + x · (c_1 + x · (c_2 + ..))
abbrev pub horner : List ℕ → ℕ → ℕ
horner [] x = 0
horner (c ∷ cs) x = bit_xor c (mul x (horner cs x))

-- x ^ n
abbrev pub power : ℕ → ℕ → ℕ
power x zero = 1
power x (suc n) = mul x (power x n)

-- the numbers c_0 · x ^ n, c_1 · x ^ (n + 1), ..
abbrev pub terms : ℕ → List ℕ → ℕ → List ℕ
terms n [] x = []
terms n (c ∷ cs) x = mul c (power x n) ∷ terms (suc n) cs x

-- f is a polynomial of degree at most d
pub record Polynomial (d : ℕ) (f : ℕ → ℕ) : Type 0 where
  pub coefficients : List ℕ
  pub short : length coefficients ≤ suc d
  pub is : (x : ℕ) → f x ≡ horner coefficients x
