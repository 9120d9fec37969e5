-- The steps of the ring switch, from a value of a table's bits to a sum over the packed table.
-- Source: ePrint 2024/504, the section on ring-switching; docs/LAWS.md, "tensor_laws: rows and columns of a packed table".
use Rattle.std.specs.Prelude.{ℕ, zero, suc, ◌^◌, List, [], ◌∷◌, map, take, drop, length, bit_xor}
use Rattle.tower_laws.specs.Tower.{mul}
use Rattle.tower_laws.specs.Lists.{sums}
use Rattle.cube_laws.specs.Sums.{sum_to, tabulate}
use Rattle.cube_laws.specs.Extension.{bit, eq}
use Rattle.tensor_laws.specs.Tensor.{from_bits, across}

-- n numbers read across: bit v of number u is bit u of number v before
abbrev pub transposed : ℕ → List ℕ → List ℕ
transposed n cs = tabulate n (across cs)

-- m numbers, each from n bits
abbrev pub packed_bits : ℕ → ℕ → List ℕ → List ℕ
packed_bits zero n bits = []
packed_bits (suc m) n bits = from_bits (take n bits) ∷ packed_bits m n (drop n bits)

-- A: at w the sum over u of eq of the draws and u times bit u of eq of the high point and w
abbrev pub combined : List ℕ → List ℕ → List ℕ
combined high draws = tabulate (2 ^ length high) (λ w. sum_to (2 ^ length draws) (λ u. mul (bit (eq high w) u) (eq draws u)))

-- the tensor whose rows are these, its rows times a and its columns times h
abbrev pub scaled : ℕ → ℕ → ℕ → List ℕ → List ℕ
scaled n h a rows = transposed n (map (mul h) (transposed n (map (mul a) rows)))

-- the rows of the sum over w of eq(high, w) ⊗ eq(at, w), coordinate by coordinate
abbrev pub tensor_eq : ℕ → List ℕ → List ℕ → List ℕ
tensor_eq n [] at = tabulate n (bit 1)
tensor_eq n (h ∷ high) [] = tabulate n (bit 1)
tensor_eq n (h ∷ high) (a ∷ at) = sums (scaled n (bit_xor 1 h) (bit_xor 1 a) (tensor_eq n high at)) (scaled n h a (tensor_eq n high at))
