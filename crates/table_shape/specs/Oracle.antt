-- The table of all bits, and the table of its words.
-- Source: docs/LOWERING.md, "The table of bits".
use Rattle.std.specs.Prelude.{ℕ, ◌-◌, ◌*◌, ◌^◌, List, [], ◌∷◌, ◌++◌, take, drop}
use Rattle.cube_laws.specs.Sums.{tabulate}
use Rattle.tensor_laws.specs.Tensor.{from_bits, bits_of_table}
use Rattle.table_shape.specs.declared.shape.TableShape.{TableShape}
use Rattle.table_shape.specs.Filling.{Filling, values_of}
use Rattle.table_shape.specs.Placement.{Block, blocks, bits_taken, places_log}

-- the bits of each block's column, the lowest bit of each value first
abbrev pub block_bits : Filling → List Block → List ℕ
block_bits filling [] = []
block_bits filling (b ∷ bs) = bits_of_table (2 ^ b.level) (values_of filling b.table b.column) ++ block_bits filling bs

-- followed by as many zeros as fill the places
abbrev pub all_bits : Filling → List Block → List ℕ
all_bits filling bs = block_bits filling bs ++ tabulate (2 ^ places_log bs - bits_taken bs) (λ _. 0)

-- t, the table of bits of all committed columns
abbrev pub bit_table : List TableShape → List ℕ → Filling → List ℕ
bit_table tables rows filling = all_bits filling (blocks tables rows)

-- the number of bits 128 w to 128 w + 127
abbrev pub word_at : List ℕ → ℕ → ℕ
word_at bits w = from_bits (take 128 (drop (128 * w) bits))

-- t', the table of its words of 128 bits
abbrev pub packed_table : List TableShape → List ℕ → Filling → List ℕ
packed_table tables rows filling = tabulate (2 ^ (places_log (blocks tables rows) - 7)) (word_at (bit_table tables rows filling))
