use Rattle.std.proofs.Common.{◌≡◌, ◌++◌, drop}
use Rattle.table_shape.proofs.copying.copied_tables.Given as goal

abbrev pub invariant-loop-table : goal.invariant-loop-table
invariant-loop-table l = l.copies ++ drop l.table-index l.tables ≡ l.tables
