-- The table of a claim as a product of a table for the place in a word and one for the word.
-- Source: docs/REDUCTIONS.md, "Provers".
use Rattle.std.specs.Prelude.{ℕ, ◌+◌, ◌-◌, ◌/◌, ◌^◌, List, [], ◌∷◌, length, map, take, drop}
use Rattle.tower_laws.specs.Tower.{mul}
use Rattle.cube_laws.specs.Extension.{bits_of, kron, weights}
use Rattle.cube_laws.specs.Sums.{tabulate}
use Rattle.column_laws.specs.Columns.{placed}
use Rattle.tensor_laws.specs.Tensor.{column}

-- how many bits a word has
unfoldable pub word_bits : ℕ
word_bits = 128

-- ---- the place in one of the words, which have 2 ^ k bits
-- how many of the k lowest variables tell the part of the table, and not a place in it
abbrev pub rest_of : ℕ → ℕ → List ℕ → ℕ
rest_of k i z = k - (i + length z)

-- the factor for the k lowest variables
abbrev pub low_part : ℕ → ℕ → List ℕ → ℕ → List ℕ
low_part k i z q = placed i (take (k - i) z) (rest_of k i z) q

-- the factor for the others
abbrev pub high_part : ℕ → ℕ → List ℕ → ℕ → ℕ → List ℕ
high_part k i z g q = kron (weights (drop (k - i) z)) (weights (bits_of (g - rest_of k i z) (q / 2 ^ rest_of k i z)))

-- ---- the tables of a batch
-- for each of its tables the low factor, times the power of lambda, and the sums of the high factor's numbers whose words have each bit
abbrev pub part_tables : {X : Type 0} → (X → List ℕ) → (X → List ℕ) → ℕ → List ℕ → ℕ → ℕ → List X → List (List ℕ)
part_tables low high n words lambda f [] = []
part_tables low high n words lambda f (c ∷ cs) = map (mul f) (low c) ∷ tabulate n (column (high c) words) ∷ part_tables low high n words lambda (mul f lambda) cs
