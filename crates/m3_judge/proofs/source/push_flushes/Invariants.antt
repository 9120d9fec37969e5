use Rattle.std.proofs.Common.{◌≡◌, ◌++◌, drop}
use Rattle.std.specs.List.{filter, flat_map, slice_index}
use Rattle.table_shape.specs.Channels.{flush_tuples, is_flush_of}
use Rattle.table_shape.specs.Filling.{values_of}
use Rattle.m3_judge.specs.Sources.{tuples_of}
use Rattle.m3_judge.proofs.source.push_flushes.Given as goal

abbrev pub invariant-loop-k : goal.invariant-loop-k
invariant-loop-k l =
    let of_flush = flush_tuples (values_of l.store.filling l.number) (slice_index l.store.rows l.number) in
    tuples_of l.store.shape l.store.filling l.sources.items ++ flat_map of_flush (filter (is_flush_of l.side l.channel) (drop l.k l.table.flushes))
    ≡ tuples_of l.store.shape l.store.filling l.fn.sources.items ++ flat_map of_flush (filter (is_flush_of l.side l.channel) l.table.flushes)
