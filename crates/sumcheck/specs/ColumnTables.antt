-- The list of a column among lists of columns.
-- Source: docs/REDUCTIONS.md, "Provers".
use Rattle.std.specs.Prelude.{ℕ, List, [], ◌∷◌, Option, None, Some, nat_eq, ◌&&◌, if◌then◌else◌}
use Rattle.sumcheck.specs.declared.column_tables.ColumnTable.{ColumnTable}

-- the first list that was added for the column
abbrev pub list_of : List ColumnTable → ℕ → ℕ → Option (List ℕ)
list_of [] table column = None
list_of (kept ∷ more) table column = if nat_eq kept.table table && nat_eq kept.column column then Some kept.values else list_of more table column
