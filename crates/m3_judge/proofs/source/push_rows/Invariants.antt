use Rattle.std.proofs.Common.{◌≡◌, ◌++◌, map, drop}
use Rattle.std.specs.List.{filter}
use Rattle.table_shape.specs.Channels.{flush_tuples, is_taken, rows_below, tuple_at}
use Rattle.table_shape.specs.Filling.{values_of}
use Rattle.m3_judge.specs.Sources.{tuples_of}
use Rattle.m3_judge.proofs.source.push_rows.Given as goal

abbrev pub invariant-loop-row : goal.invariant-loop-row
invariant-loop-row l =
    let values = values_of l.store.filling l.table in
    tuples_of l.store.shape l.store.filling l.sources.items ++ map (tuple_at values l.flush) (filter (is_taken values l.flush.selector) (drop l.row (rows_below l.rows)))
    ≡ tuples_of l.store.shape l.store.filling l.fn.sources.items ++ flush_tuples values l.rows l.flush
