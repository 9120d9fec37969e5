use Rattle.std.proofs.Common.{◌≡◌, ◌++◌, drop}
use Rattle.table_shape.specs.Channels.{table_tuples}
use Rattle.m3_judge.specs.Sources.{tuples_of}
use Rattle.m3_judge.proofs.source.sources_of.Given as goal

abbrev pub invariant-loop-number : goal.invariant-loop-number
invariant-loop-number l =
    tuples_of l.store.shape l.store.filling l.sources.items ++ table_tuples l.side l.channel l.store.filling l.store.rows l.number (drop l.number l.store.shape.tables)
    ≡ table_tuples l.side l.channel l.store.filling l.store.rows 0 l.store.shape.tables
