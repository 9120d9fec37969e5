-- Sums, products and lists over the numbers below n, from the front.
-- Source: docs/LAWS.md, "cube_laws: tables over cubes".
use Rattle.std.specs.Prelude.{ℕ, zero, suc, List, [], ◌∷◌, bit_xor}
use Rattle.tower_laws.specs.Tower.{mul}

-- f 0 + f 1 + .. + f (n - 1)
abbrev pub sum_to : ℕ → (ℕ → ℕ) → ℕ
sum_to zero f = 0
sum_to (suc n) f = bit_xor (f 0) (sum_to n (λ k. f (suc k)))

-- f 0 · f 1 · .. · f (n - 1)
abbrev pub product_to : ℕ → (ℕ → ℕ) → ℕ
product_to zero f = 1
product_to (suc n) f = mul (f 0) (product_to n (λ k. f (suc k)))

-- the list f 0, f 1, .., f (n - 1)
abbrev pub tabulate : ℕ → (ℕ → ℕ) → List ℕ
tabulate zero f = []
tabulate (suc n) f = f 0 ∷ tabulate n (λ k. f (suc k))
