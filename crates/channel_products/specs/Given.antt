-- Lists of columns that a prover is given.
-- Source: docs/REDUCTIONS.md, "Channels".
use Rattle.std.specs.Prelude.{◌≡◌, ◌≤◌, ℕ, ◌^◌, List, [], ◌∷◌, ◌++◌, length, slice_index, Option, None, Some, unwrap_or}
use Rattle.std.specs.List.{AllByRecursion}
use Rattle.list_laws.specs.CeilLog.{ceil_log}
use Rattle.sumcheck.specs.declared.column_tables.ColumnTable.{ColumnTable}
use Rattle.sumcheck.specs.ColumnTables.{list_of}
use Rattle.table_shape.specs.declared.shape.FlushShape.{FlushShape}
use Rattle.channel_products.specs.declared.flushed.Flushed.{Flushed}

-- the list of a column among those that are given, and none where it isn't there
abbrev pub table_of : List ColumnTable → ℕ → ℕ → List ℕ
table_of tables t c = unwrap_or (list_of tables t c) []

-- a list of n values is there for the column
abbrev pub IsThere : List ColumnTable → ℕ → ℕ → ℕ → Type 0
IsThere tables t n c = (list : List ℕ) × (list_of tables t c ≡ Some list) × (length list ≡ n)

abbrev pub selector_columns : Option ℕ → List ℕ
selector_columns None = []
selector_columns (Some s) = s ∷ []

-- the columns that a flush names, its selector first
abbrev pub named_columns : FlushShape → List ℕ
named_columns flush = selector_columns flush.selector ++ flush.columns

-- those of a flush are there, with a value for each row of the filled-up table
abbrev pub FlushIsThere : List ColumnTable → Flushed → Type 0
FlushIsThere tables f = AllByRecursion (IsThere tables f.table (2 ^ ceil_log f.rows)) (named_columns f.shape)

abbrev pub AreThere : List ColumnTable → List Flushed → Type 0
AreThere tables flushes = AllByRecursion (FlushIsThere tables) flushes

-- ---- a selector's list, where there is a selector
-- its value at a row, and 1 where there is none
abbrev pub selected_at : Option (List ℕ) → ℕ → ℕ
selected_at None row = 1
selected_at (Some list) row = slice_index list row

abbrev pub SelectorIsLong : ℕ → Option (List ℕ) → Type 0
SelectorIsLong n None = Unit {0}
SelectorIsLong n (Some list) = n ≤ length list
