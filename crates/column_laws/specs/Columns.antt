-- Columns that are made from others, and columns as bits of one table.
-- Source: docs/LAWS.md, "column_laws: columns as bits of one table".
use Rattle.std.specs.Prelude.{ℕ, ◌+◌, ◌*◌, ◌^◌, List, [], ◌∷◌, get_or, bit_xor}
use Rattle.tower_laws.specs.Tower.{mul}
use Rattle.cube_laws.specs.Sums.{sum_to, tabulate}
use Rattle.cube_laws.specs.Extension.{eq_points, weights, bits_of, kron}
use Rattle.cube_laws.specs.SumClaim.{row}
use Rattle.column_laws.specs.Basis.{basis_at}

-- k0 plus the sum of k_i · v_i
abbrev pub linear_value : ℕ → List ℕ → List ℕ → ℕ
linear_value k0 [] vs = k0
linear_value k0 (k ∷ ks) [] = k0
linear_value k0 (k ∷ ks) (v ∷ vs) = bit_xor (mul k v) (linear_value k0 ks vs)

-- n values, each k0 plus the sum of k_i times the value of column i there
abbrev pub linear : ℕ → ℕ → List ℕ → List (List ℕ) → List ℕ
linear n k0 ks cs = tabulate n (λ p. linear_value k0 ks (row cs p))

-- n values, each the j-th of 2 ^ k values of a column
abbrev pub projected : ℕ → ℕ → ℕ → List ℕ → List ℕ
projected k j n column = tabulate n (λ x. get_or column (x * 2 ^ k + j) 0)

-- n values of level i + k, each made of 2 ^ k values of level i
abbrev pub packed : ℕ → ℕ → ℕ → List ℕ → List ℕ
packed i k n column = tabulate n (λ x. sum_to (2 ^ k) (λ u. mul (2 ^ (u * 2 ^ i)) (get_or column (x * 2 ^ k + u) 0)))

-- the table B of a claim at z on a column of level i whose bits are part q of 2 ^ g parts:
-- the powers 2 ^ u for bit u of a value, the weights of z for its position, and the corner q for its part
abbrev pub placed : ℕ → List ℕ → ℕ → ℕ → List ℕ
placed i z g q = kron (kron (tabulate (2 ^ i) (λ u. 2 ^ u)) (weights z)) (weights (bits_of g q))

-- B at a point of three pieces
abbrev pub placed_at : List ℕ → ℕ → ℕ → List ℕ → List ℕ → List ℕ → ℕ
placed_at z g q low mid top = mul (mul (basis_at 0 low) (eq_points z mid)) (eq_points (bits_of g q) top)
