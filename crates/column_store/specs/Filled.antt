-- The values of all columns, by those that are given: a virtual column has the values of its form over the columns before it.
-- Source: docs/LANGUAGE.md, "Virtual columns".
use Rattle.std.specs.Prelude.{ℕ, zero, suc, ◌+◌, ◌^◌, List, [], ◌∷◌, ◌++◌, length, Option, Some, None, slice_get}
use Rattle.cube_laws.specs.Sums.{tabulate}
use Rattle.table_shape.specs.declared.shape.ColumnKind.{ColumnKind}
use Rattle.table_shape.specs.declared.shape.ColumnKind.TheVariants.{Committed, Virtual}
use Rattle.table_shape.specs.declared.shape.ColumnShape.{ColumnShape}
use Rattle.table_shape.specs.declared.shape.TableShape.{TableShape}
use Rattle.list_laws.specs.CeilLog.{ceil_log}
use Rattle.table_shape.specs.Forms.{form_value}
use Rattle.table_shape.specs.Filling.{Filling}
use Rattle.column_store.specs.Column.{list_of}

-- the values of a column of this kind, by the columns before it
abbrev pub filled_column : ℕ → List ColumnShape → List (List ℕ) → ColumnShape → List ℕ → ColumnKind → List ℕ
filled_column rows columns before column given Committed = given
filled_column rows columns before column given (Virtual form) = tabulate (2 ^ (ceil_log rows + column.log_values)) (form_value columns (list_of before) form)

abbrev pub filled_at : ℕ → List ColumnShape → List (List ℕ) → List ℕ → Option ColumnShape → List ℕ
filled_at rows columns before given None = given
filled_at rows columns before given (Some column) = filled_column rows columns before column given column.kind

-- those of a table's first columns, n of them
unfoldable pub filled : ℕ → List ColumnShape → List (List ℕ) → ℕ → List (List ℕ)
filled rows columns given zero = []
filled rows columns given (suc n) = filled rows columns given n ++ filled_at rows columns (filled rows columns given n) (list_of given n) (slice_get columns n) ∷ []

-- those of all columns of tables
abbrev pub filled_tables : List TableShape → List ℕ → Filling → Filling
filled_tables [] rows given = []
filled_tables (table ∷ tables) [] given = []
filled_tables (table ∷ tables) (m ∷ rows) [] = []
filled_tables (table ∷ tables) (m ∷ rows) (g ∷ given) = filled m table.columns g (length table.columns) ∷ filled_tables tables rows given
