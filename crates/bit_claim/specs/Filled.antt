-- In a filling of a shape the bits of committed columns stand where claims on them ask for them.
-- Source: docs/REDUCTIONS.md, "Bits of columns".
use Rattle.std.specs.Prelude.{◌≡◌, ◌≤◌, ◌+◌, ◌^◌, ℕ, List, length, slice_get, slice_index, Some}
use Rattle.list_laws.specs.CeilLog.{ceil_log}
use Rattle.sumcheck.specs.declared.column_claim.ColumnClaim.{ColumnClaim}
use Rattle.table_shape.specs.declared.shape.ColumnKind.TheVariants.{Committed}
use Rattle.table_shape.specs.declared.shape.ColumnShape.{ColumnShape}
use Rattle.table_shape.specs.declared.shape.TableShape.{TableShape}
use Rattle.table_shape.specs.Filling.{Filling, IsFilling, values_of}
use Rattle.table_shape.specs.Fits.{ShapeFits}
use Rattle.table_shape.specs.Limits.{max_size_log}
use Rattle.table_shape.specs.Oracle.{bit_table}
use Rattle.table_shape.specs.Parts.{ShapeParts}
use Rattle.table_shape.specs.Placement.{blocks, places_log}
use Rattle.table_shape.specs.Size.{size_log}
use Rattle.bit_claim.specs.Bits.{bits, IsPlaced, Stands}

pub record HasBits (s : ShapeParts) (rows : List ℕ) (filling : Filling) : Type 0 where
  -- t is the table of bits, of 2 ^ places_log places
  pub table : bits (values_of filling) (blocks s.tables rows) ≡ bit_table s.tables rows filling
  pub size : length (bit_table s.tables rows filling) ≡ 2 ^ places_log (blocks s.tables rows)
  -- a claim on a committed column, at a point of as many coordinates as its positions have, is placed, and its bits stand there
  pub placed : (c : ColumnClaim) (table : TableShape) (column : ColumnShape) → slice_get s.tables c.table ≡ Some table → slice_get table.columns c.column ≡ Some column → column.kind ≡ Committed
      → length c.point ≡ ceil_log (slice_index rows c.table) + column.log_values → IsPlaced (blocks s.tables rows) c × Stands (values_of filling) (blocks s.tables rows) c

abbrev pub FillingsHaveBits : Type 0
FillingsHaveBits = (s : ShapeParts) (rows : List ℕ) (filling : Filling) → ShapeFits s → IsFilling s.tables rows filling → size_log s.tables rows ≤ max_size_log → HasBits s rows filling
