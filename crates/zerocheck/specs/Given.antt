-- Lists of columns that a prover is given.
-- Source: docs/REDUCTIONS.md, "Zerocheck".
use Rattle.std.specs.Prelude.{◌≡◌, ℕ, List, [], length, map, Some, unwrap_or}
use Rattle.std.specs.List.{AllByRecursion}
use Rattle.sumcheck.specs.declared.column_tables.ColumnTable.{ColumnTable}
use Rattle.sumcheck.specs.ColumnTables.{list_of}

-- the list of a column among those that are given, and none where it isn't there
abbrev pub table_of : List ColumnTable → ℕ → ℕ → List ℕ
table_of tables t c = unwrap_or (list_of tables t c) []

-- the lists of columns
abbrev pub given_lists : List ColumnTable → ℕ → List ℕ → List (List ℕ)
given_lists tables t columns = map (table_of tables t) columns

-- a list of n values is there for the column
abbrev pub IsThere : List ColumnTable → ℕ → ℕ → ℕ → Type 0
IsThere tables t n c = (list : List ℕ) × (list_of tables t c ≡ Some list) × (length list ≡ n)

abbrev pub AreThere : List ColumnTable → ℕ → ℕ → List ℕ → Type 0
AreThere tables t n columns = AllByRecursion (IsThere tables t n) columns
