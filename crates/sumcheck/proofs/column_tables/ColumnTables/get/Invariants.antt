use Rattle.std.proofs.Common.{◌≡◌, drop}
use Rattle.sumcheck.specs.ColumnTables.{list_of}
use Rattle.sumcheck.proofs.column_tables.ColumnTables.get.Given as goal

abbrev pub invariant-loop-kept : goal.invariant-loop-kept
invariant-loop-kept l = list_of (drop l.kept-index l.kept-items) l.table l.column ≡ list_of l.kept-items l.table l.column
