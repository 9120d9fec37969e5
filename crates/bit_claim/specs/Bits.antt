-- The table of all bits of a filling, and where the bits of a claim's column stand in it.
-- Source: docs/LOWERING.md, "The table of bits"; docs/REDUCTIONS.md, "Bits of columns".
use Rattle.std.specs.Prelude.{◌≡◌, ◌<◌, ◌≤◌, ◌+◌, ◌*◌, ◌/◌, ◌-◌, ◌^◌, ℕ, cond, List, [], ◌∷◌, ◌++◌, length, take, drop, Option, None, Some, option_map, unwrap_or}
use Rattle.tower_laws.specs.Lists.{AllFit}
use Rattle.cube_laws.specs.Sums.{tabulate}
use Rattle.column_laws.specs.Columns.{placed, placed_at}
use Rattle.tensor_laws.specs.Tensor.{bits_of_table}
use Rattle.sumcheck.specs.declared.column_claim.ColumnClaim.{ColumnClaim}
use Rattle.sumcheck.specs.Machine.{Filling}
use Rattle.table_shape.specs.Placement.{Block, bits_taken, is_block, offset, places_log}

-- the bits of each block's column, the lowest bit of each value first
abbrev pub column_bits : Filling → List Block → List ℕ
column_bits F [] = []
column_bits F (b ∷ bs) = bits_of_table (2 ^ b.level) (F b.table b.column) ++ column_bits F bs

-- t: followed by as many zeros as fill the places
abbrev pub bits : Filling → List Block → List ℕ
bits F bs = column_bits F bs ++ tabulate (2 ^ places_log bs - bits_taken bs) (λ _. 0)

-- ---- a claim's column
abbrev pub block_in : ℕ → ℕ → List Block → Option Block
block_in t c [] = None
block_in t c (b ∷ bs) = cond (is_block t c b) (Some b) (block_in t c bs)

-- its level
abbrev pub level_in : List Block → ColumnClaim → ℕ
level_in bs c = unwrap_or (option_map (λ (b : Block). b.level) (block_in c.table c.column bs)) 0

-- it has 2 ^ size_in bits
abbrev pub size_in : List Block → ColumnClaim → ℕ
size_in bs c = level_in bs c + length c.point

-- they are this part of 2 ^ above_in parts of the table
abbrev pub part_in : List Block → ColumnClaim → ℕ
part_in bs c = offset c.table c.column bs / 2 ^ size_in bs c

abbrev pub above_in : List Block → ColumnClaim → ℕ
above_in bs c = places_log bs - size_in bs c

-- B of the claim: the sum over y of B(y) · t(y) is the column's extension at the claim's point
abbrev pub claim_table : List Block → ColumnClaim → List ℕ
claim_table bs c = placed (level_in bs c) c.point (above_in bs c) (part_in bs c)

-- its extension at a point
abbrev pub claim_at : List Block → List ℕ → ColumnClaim → ℕ
claim_at bs z c = placed_at c.point (above_in bs c) (part_in bs c) (take (level_in bs c) z) (take (length c.point) (drop (level_in bs c) z)) (drop (size_in bs c) z)

-- in the filling the bits of the claim's column stand there
pub record Stands (F : Filling) (bs : List Block) (c : ColumnClaim) : Type 0 where
  pub level : AllFit (level_in bs c) (F c.table c.column)
  pub within : size_in bs c ≤ places_log bs
  pub part : part_in bs c < 2 ^ above_in bs c
  pub there : take (2 ^ size_in bs c) (drop (part_in bs c * 2 ^ size_in bs c) (bits F bs)) ≡ bits_of_table (2 ^ level_in bs c) (F c.table c.column)

-- the claim is on a column that has a block, at a point of as many coordinates as its positions have
abbrev pub IsPlaced : List Block → ColumnClaim → Type 0
IsPlaced bs c = (b : Block) × (_ : block_in c.table c.column bs ≡ Some b) × (b.level + length c.point ≡ b.log_bits)
