-- What a draft holds, and what a store that is made of it.
-- Source: docs/ARCHITECTURE.md, "Within column_store".
use Rattle.std.specs.Prelude.{ℕ, ◌≡◌, ◌+◌, ◌*◌, ◌/◌, ◌^◌, ◌<◌, ◌≤◌, List, [], ◌∷◌, length, map, slice_get, slice_index, slice_index_or, slice_set, Some, None}
use Rattle.cube_laws.specs.Sums.{tabulate}
use Rattle.table_shape.specs.Limits.{max_rows, max_size_log}
use Rattle.table_shape.specs.declared.shape.ColumnKind.TheVariants.{Committed}
use Rattle.table_shape.specs.declared.shape.ColumnShape.{ColumnShape}
use Rattle.table_shape.specs.declared.shape.TableShape.{TableShape}
use Rattle.table_shape.specs.declared.shape.ShapeForm.{ShapeForm}
use Rattle.table_shape.specs.declared.shape.ShapeForm.TheVariants as form
use Rattle.table_shape.specs.declared.shape.ShapeTerm.{ShapeTerm}
use Rattle.table_shape.specs.Parts.{ShapeParts}
use Rattle.list_laws.specs.CeilLog.{ceil_log}
use Rattle.table_shape.specs.Size.{size_log}
use Rattle.table_shape.specs.Width.{log_values_at}
use Rattle.table_shape.specs.Forms.{level_at}
use Rattle.table_shape.specs.Filling.{Filling, IsFilling}
use Rattle.column_store.specs.Column.{ColumnValues, lists}
use Rattle.column_store.specs.Digits.{number_of_bytes}
use Rattle.column_store.specs.Spelled.{written_bits}

-- a shape, how many rows each table has, and values for its columns, of which those of virtual columns don't count yet
pub record Drafted : Type 0 where
  pub shape : ShapeParts
  pub rows : List ℕ
  pub values : Filling

-- a shape, how many rows each table has, and the values of all columns
pub record Stored : Type 0 where
  pub shape : ShapeParts
  pub rows : List ℕ
  pub filling : Filling

-- how many values a column has on a number of rows, filled up to a power of two
abbrev pub count_of : ℕ → ColumnShape → ℕ
count_of rows column = 2 ^ (ceil_log rows + column.log_values)

-- a column of zeros
abbrev pub zero_column : ℕ → ColumnShape → ColumnValues
zero_column rows column = record { level = column.level; values = tabulate (count_of rows column) (λ _. 0) }

abbrev pub zero_columns : ℕ → List ColumnShape → List ColumnValues
zero_columns rows columns = map (zero_column rows) columns

abbrev pub zeros_of : List TableShape → List ℕ → List (List ColumnValues)
zeros_of [] rows = []
zeros_of (table ∷ tables) [] = []
zeros_of (table ∷ tables) (m ∷ rows) = zero_columns m table.columns ∷ zeros_of tables rows

-- the lists of the columns of tables, all of zeros
abbrev pub zero_tables : List TableShape → List ℕ → Filling
zero_tables tables rows = map lists (zeros_of tables rows)

-- values that a witness may give to a column: as many as its rows filled up have, each of its level, and 0 past its rows
pub record IsGiven (rows : ℕ) (column : ColumnShape) (values : List ℕ) : Type 0 where
  pub len : length values ≡ count_of rows column
  pub fits : (p : ℕ) → slice_index values p < 2 ^ (2 ^ column.level)
  pub padded : (p : ℕ) → rows * 2 ^ column.log_values ≤ p → slice_index values p ≡ 0

pub record IsKept (rows : ℕ) (shape : ColumnShape) (column : ColumnValues) : Type 0 where
  pub level_is : column.level ≡ shape.level
  pub given : IsGiven rows shape column.values

-- such values for each column of a table
pub record AreKept (rows : ℕ) (shapes : List ColumnShape) (columns : List ColumnValues) : Type 0 where
  pub counts : length columns ≡ length shapes
  pub each : (c : ℕ) (shape : ColumnShape) (column : ColumnValues) → slice_get shapes c ≡ Some shape → slice_get columns c ≡ Some column → IsKept rows shape column

-- rows for each table, within all limits
pub record AreRows (tables : List TableShape) (rows : List ℕ) : Type 0 where
  pub counts : length rows ≡ length tables
  pub few : (t : ℕ) → slice_index rows t ≤ max_rows
  pub small : size_log tables rows ≤ max_size_log

-- such values for each column of each table
abbrev pub AllKept : List ℕ → List TableShape → List (List ColumnValues) → Type 0
AllKept rows tables stored = (t : ℕ) (table : TableShape) (columns : List ColumnValues) → slice_get tables t ≡ Some table → slice_get stored t ≡ Some columns → AreKept (slice_index rows t) table.columns columns

pub record IsDraft (tables : List TableShape) (rows : List ℕ) (stored : List (List ColumnValues)) : Type 0 where
  pub rows_are : AreRows tables rows
  pub counts : length stored ≡ length tables
  pub each : AllKept rows tables stored

abbrev pub drafted : ShapeParts → List ℕ → List (List ColumnValues) → Drafted
drafted shape rows stored = record { shape = shape; rows = rows; values = map lists stored }

-- the bytes of a committed column: as few as hold its bits, and no other bit
pub record TakesBits (tables : List TableShape) (rows : List ℕ) (t c : ℕ) (bytes : List ℕ) : Type 0 where
  pub table : TableShape
  pub column : ColumnShape
  pub table_is : slice_get tables t ≡ Some table
  pub column_is : slice_get table.columns c ≡ Some column
  pub is_committed : column.kind ≡ Committed
  pub len : length bytes ≡ (written_bits (slice_index rows t) column + 7) / 8
  pub no_padding : number_of_bytes bytes < 2 ^ written_bits (slice_index rows t) column

-- values with this list for column c of table t
abbrev pub with_values : Filling → ℕ → ℕ → List ℕ → Filling
with_values filling t c values = slice_set filling t (slice_set (slice_index_or filling t []) c values)

-- columns of which a form may be taken
abbrev pub CanRead : List ColumnShape → ShapeForm → Type 0
CanRead shapes (form.Shl c block offset) = (c < length shapes) × (block ≤ 7)
CanRead shapes (form.Shr c block offset) = (c < length shapes) × (block ≤ 7)
CanRead shapes (form.Rol c block offset) = (c < length shapes) × (block ≤ 7)
CanRead shapes (form.Pack c log) = (c < length shapes) × (level_at shapes c + log ≤ 7)
CanRead shapes (form.Project c log index) = (c < length shapes) × (log ≤ 7)
CanRead shapes (form.Linear constant terms) = (i : ℕ) (term : ShapeTerm) → slice_get terms i ≡ Some term → term.column < length shapes

-- the values of all columns are those of the shape's forms, and within all limits
pub record IsStored (shape : ShapeParts) (rows : List ℕ) (stored : List (List ColumnValues)) : Type 0 where
  pub fills : IsFilling shape.tables rows (map lists stored)
  pub small : size_log shape.tables rows ≤ max_size_log
  pub counts : length stored ≡ length shape.tables
  pub columns_count : (t : ℕ) (table : TableShape) (columns : List ColumnValues) → slice_get shape.tables t ≡ Some table → slice_get stored t ≡ Some columns → length columns ≡ length table.columns

abbrev pub filling_of_stored : ShapeParts → List ℕ → List (List ColumnValues) → Stored
filling_of_stored shape rows stored = record { shape = shape; rows = rows; filling = map lists stored }

-- the columns of table t
abbrev pub columns_of : List TableShape → ℕ → List ColumnShape
columns_of tables t = elim (slice_get tables t) [ Some table ↦ table.columns | None ↦ [] ]

-- the place of a row and an index among the values of column c of table t
abbrev pub position_of : List TableShape → ℕ → ℕ → ℕ → ℕ → ℕ
position_of tables t c row index = row * 2 ^ log_values_at (columns_of tables t) c + index

-- a row, filled up, and an index of a column that is there
pub record IsPlace (tables : List TableShape) (rows : List ℕ) (t c row index : ℕ) : Type 0 where
  pub table_exists : t < length tables
  pub column_exists : c < length (columns_of tables t)
  pub row_fits : row < 2 ^ ceil_log (slice_index rows t)
  pub index_fits : index < 2 ^ log_values_at (columns_of tables t) c
