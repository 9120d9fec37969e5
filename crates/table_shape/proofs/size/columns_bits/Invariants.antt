use Rattle.std.proofs.Common.{◌≡◌, ◌+◌, ◌*◌, ◌^◌, ◌≤◌, drop}
use Rattle.table_shape.specs.Size.{columns_bits}
use Rattle.table_shape.proofs.size.columns_bits.Given as goal

abbrev pub invariant-loop-column : goal.invariant-loop-column
invariant-loop-column l = record {
  sum : l.bits + columns_bits l.rows (drop l.column-index l.columns) ≡ columns_bits l.rows l.columns;
  bound : l.bits ≤ l.column-index * 2 ^ 34;
}
