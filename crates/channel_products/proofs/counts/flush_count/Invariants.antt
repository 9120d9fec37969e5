use Rattle.std.proofs.Common.{◌≡◌, ◌+◌, ◌≤◌, drop, length}
use Rattle.std.specs.List.{filter}
use Rattle.table_shape.specs.Channels.{is_flush_of}
use Rattle.channel_products.proofs.counts.flush_count.Given as goal

abbrev pub invariant-loop-flush : goal.invariant-loop-flush
invariant-loop-flush l = record {
  count : l.count + length (filter (is_flush_of l.side l.channel) (drop l.flush-index l.flushes)) ≡ length (filter (is_flush_of l.side l.channel) l.flushes);
  few : l.count ≤ l.flush-index;
}
