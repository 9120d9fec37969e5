-- The bytes of the columns, as they are put into a draft.
-- Source: docs/ARCHITECTURE.md, "Within witness_reader".
use Rattle.std.specs.Prelude.{◌≡◌, ℕ, ◌+◌, ◌/◌, ◌^◌, ◌<◌, List, [], length, slice_get, slice_index, Some}
use Rattle.table_shape.specs.declared.shape.ColumnKind.{ColumnKind}
use Rattle.table_shape.specs.declared.shape.ColumnKind.TheVariants.{Committed, Virtual}
use Rattle.table_shape.specs.declared.shape.ColumnShape.{ColumnShape}
use Rattle.table_shape.specs.declared.shape.TableShape.{TableShape}
use Rattle.column_store.specs.Digits.{number_of_bytes}
use Rattle.column_store.specs.Spelled.{written_bits}

-- as few bytes as hold the bits of a committed column's rows, and no other bit
abbrev pub IsSpelled : ℕ → ColumnShape → List ℕ → ColumnKind → Type 0
IsSpelled rows column bytes Committed = (length bytes ≡ (written_bits rows column + 7) / 8) × (number_of_bytes bytes < 2 ^ written_bits rows column)
IsSpelled rows column bytes (Virtual form) = bytes ≡ []

pub record AreColumnsSpelled (rows : ℕ) (columns : List ColumnShape) (bytes : List (List ℕ)) : Type 0 where
  pub counts : length bytes ≡ length columns
  pub each : (c : ℕ) (column : ColumnShape) (b : List ℕ) → slice_get columns c ≡ Some column → slice_get bytes c ≡ Some b → IsSpelled rows column b column.kind

pub record AreTablesSpelled (tables : List TableShape) (rows : List ℕ) (bytes : List (List (List ℕ))) : Type 0 where
  pub rows_count : length rows ≡ length tables
  pub counts : length bytes ≡ length tables
  pub each : (t : ℕ) (table : TableShape) (b : List (List ℕ)) → slice_get tables t ≡ Some table → slice_get bytes t ≡ Some b → AreColumnsSpelled (slice_index rows t) table.columns b
