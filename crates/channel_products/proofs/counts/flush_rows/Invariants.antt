use Rattle.std.proofs.Common.{◌≡◌, ◌+◌, ◌*◌, ◌≤◌, drop}
use Rattle.table_shape.specs.Counts.{flush_rows}
use Rattle.channel_products.proofs.counts.flush_rows.Given as goal

abbrev pub invariant-loop-t : goal.invariant-loop-t
invariant-loop-t l = record {
  rows : l.total + flush_rows l.side l.channel l.rows l.t (drop l.t l.table-items) ≡ flush_rows l.side l.channel l.rows 0 l.table-items;
  few : l.total ≤ l.t * 67108864;
}
