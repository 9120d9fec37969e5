use Rattle.std.proofs.Common.{◌≡◌, ◌+◌, ◌*◌, ◌^◌, ◌≤◌, drop}
use Rattle.table_shape.specs.Size.{tables_bits}
use Rattle.table_shape.proofs.size.size_log.Given as goal

abbrev pub invariant-loop-t : goal.invariant-loop-t
invariant-loop-t l = record {
  sum : l.bits + tables_bits (drop l.t l.table-items) (drop l.t l.rows) ≡ tables_bits l.table-items l.rows;
  bound : l.bits ≤ l.t * 2 ^ 42;
}
