use Rattle.std.proofs.Common.{◌≡◌, ◌++◌, drop, map}
use Rattle.channel_products.specs.Channels.{flushes_of}
use Rattle.m3_walk.specs.Course.{flush_stage}
use Rattle.m3_walk.proofs.channels.push_flushes.Given as goal

abbrev pub invariant-loop-flush : goal.invariant-loop-flush
invariant-loop-flush l = l.stages.items ++ map flush_stage (flushes_of l.t l.rows l.flush (drop l.flush l.table.flushes)) ≡ l.initial.stages.items ++ map flush_stage (flushes_of l.t l.rows 0 l.table.flushes)
