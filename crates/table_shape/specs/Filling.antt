-- The values of the columns of tables on a number of rows.
-- Source: docs/LANGUAGE.md, "What a file means"; docs/FORMATS.md, "The witness".
use Rattle.std.specs.Prelude.{◌≡◌, ℕ, ◌+◌, ◌*◌, ◌^◌, ◌<◌, ◌≤◌, List, [], slice_index, slice_index_or, slice_get, length, Some}
use Rattle.table_shape.specs.Limits.{max_rows}
use Rattle.table_shape.specs.declared.shape.ColumnKind.{ColumnKind}
use Rattle.table_shape.specs.declared.shape.ColumnKind.TheVariants.{Committed, Virtual}
use Rattle.table_shape.specs.declared.shape.ColumnShape.{ColumnShape}
use Rattle.table_shape.specs.declared.shape.TableShape.{TableShape}
use Rattle.list_laws.specs.CeilLog.{ceil_log}
use Rattle.table_shape.specs.Forms.{form_value}

-- the values of each column of each table, by position: that at row y and index x of a column of 2 ^ v values per row stands at y * 2 ^ v + x
abbrev pub Filling : Type 0
Filling = List (List (List ℕ))

abbrev pub values_of : Filling → ℕ → ℕ → List ℕ
values_of filling table column = slice_index_or (slice_index_or filling table []) column []

-- the value of each column of a table at a position
abbrev pub values_at : Filling → ℕ → ℕ → ℕ → ℕ
values_at filling table position column = slice_index (values_of filling table column) position

-- where a column's values come from: a committed column is 0 on the rows that fill its own up to a power of two, a virtual one has the value of its form on all
abbrev pub HasValues : ℕ → List ColumnShape → (ℕ → List ℕ) → ColumnShape → List ℕ → ColumnKind → Type 0
HasValues rows columns values column list Committed = (p : ℕ) → rows * 2 ^ column.log_values ≤ p → slice_index list p ≡ 0
HasValues rows columns values column list (Virtual form) = (p : ℕ) → p < 2 ^ (ceil_log rows + column.log_values) → slice_index list p ≡ form_value columns values form p

-- column c of a table's columns on a number of rows, where values k is the list of column k
pub record IsColumn (rows : ℕ) (columns : List ColumnShape) (values : ℕ → List ℕ) (c : ℕ) (column : ColumnShape) : Type 0 where
  pub len : length (values c) ≡ 2 ^ (ceil_log rows + column.log_values)
  pub fits : (p : ℕ) → slice_index (values c) p < 2 ^ (2 ^ column.level)
  pub has : HasValues rows columns values column (values c) column.kind

-- values for each column of each table, on these rows
pub record IsFilling (tables : List TableShape) (rows : List ℕ) (filling : Filling) : Type 0 where
  pub counts : length rows ≡ length tables
  pub few : (t : ℕ) → slice_index rows t ≤ max_rows
  pub columns : (t c : ℕ) (table : TableShape) (column : ColumnShape) → slice_get tables t ≡ Some table → slice_get table.columns c ≡ Some column
      → IsColumn (slice_index rows t) table.columns (values_of filling t) c column
