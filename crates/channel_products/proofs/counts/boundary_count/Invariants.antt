use Rattle.std.proofs.Common.{◌≡◌, ◌+◌, ◌≤◌, drop, length}
use Rattle.std.specs.List.{filter}
use Rattle.table_shape.specs.Channels.{is_boundary_of}
use Rattle.channel_products.proofs.counts.boundary_count.Given as goal

abbrev pub invariant-loop-boundary : goal.invariant-loop-boundary
invariant-loop-boundary l = record {
  count : l.count + length (filter (is_boundary_of l.side l.channel) (drop l.boundary-index l.boundaries)) ≡ length (filter (is_boundary_of l.side l.channel) l.boundaries);
  few : l.count ≤ l.boundary-index;
}
