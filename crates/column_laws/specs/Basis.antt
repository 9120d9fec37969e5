-- The numbers X_k = 2 ^ (2 ^ k), and the powers of 2 as their products.
-- Source: Diamond and Posen, ePrint 2023/1784, the section on binary towers; docs/LAWS.md, "column_laws: columns as bits of one table".
use Rattle.std.specs.Prelude.{ℕ, zero, suc, ◌^◌, List, [], ◌∷◌, bit_xor}
use Rattle.tower_laws.specs.Tower.{mul}

-- X_k, X_(k + 1), .., n of them
abbrev pub generators : ℕ → ℕ → List ℕ
generators k zero = []
generators k (suc n) = 2 ^ (2 ^ k) ∷ generators (suc k) n

-- the product over j of 1 + y_j · (1 + X_(k + j))
abbrev pub basis_at : ℕ → List ℕ → ℕ
basis_at k [] = 1
basis_at k (y ∷ ys) = mul (bit_xor 1 (mul y (bit_xor 1 (2 ^ (2 ^ k))))) (basis_at (suc k) ys)
