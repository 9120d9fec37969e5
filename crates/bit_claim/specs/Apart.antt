-- Blocks that stand apart.
-- Source: docs/LOWERING.md, "The table of bits".
use Rattle.std.specs.Prelude.{◌≡◌, ℕ, ◌+◌, ◌*◌, ◌^◌, ◌<◌, ◌≤◌, List, slice_get, Some}
use Rattle.std.specs.List.{filter}
use Rattle.list_laws.specs.CeilLog.{ceil_log}
use Rattle.table_shape.specs.declared.shape.ColumnShape.{ColumnShape}
use Rattle.table_shape.specs.declared.shape.TableShape.{TableShape}
use Rattle.table_shape.specs.Limits.{max_block_log}
use Rattle.table_shape.specs.Placement.{Block, block_of, blocks, is_block, offset, places_log}

-- where a block begins among others
abbrev pub start : Block → List Block → ℕ
start b bs = offset b.table b.column bs

-- the blocks of tables on numbers of rows
pub record StandApart (bs : List Block) : Type 0 where
  -- each begins at a multiple of its own size
  pub aligned : (k : ℕ) (b : Block) → slice_get bs k ≡ Some b → (q : ℕ) × (start b bs ≡ q * 2 ^ b.log_bits)
  -- each ends within the table of bits
  pub within : (k : ℕ) (b : Block) → slice_get bs k ≡ Some b → start b bs + 2 ^ b.log_bits ≤ 2 ^ places_log bs
  -- each ends where a later one begins, or before
  pub apart : (k l : ℕ) (b d : Block) → k < l → slice_get bs k ≡ Some b → slice_get bs l ≡ Some d → start b bs + 2 ^ b.log_bits ≤ start d bs

pub record AreApart : Type 0 where
  pub stand : (tables : List TableShape) (rows : List ℕ) → StandApart (blocks tables rows)
  -- a committed column has exactly one block, and a virtual one none
  pub own : (tables : List TableShape) (rows : List ℕ) (t m c : ℕ) (table : TableShape) (column : ColumnShape)
      → slice_get tables t ≡ Some table → slice_get rows t ≡ Some m → slice_get table.columns c ≡ Some column → ceil_log m + column.log_values + column.level ≤ max_block_log
      → filter (is_block t c) (blocks tables rows) ≡ block_of t m c column column.kind
