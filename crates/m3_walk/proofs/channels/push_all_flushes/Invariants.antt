use Rattle.std.proofs.Common.{◌≡◌, ◌++◌, drop, map}
use Rattle.channel_products.specs.Channels.{flushes_from}
use Rattle.m3_walk.specs.Course.{flush_stage}
use Rattle.m3_walk.proofs.channels.push_all_flushes.Given as goal

abbrev pub invariant-loop-t : goal.invariant-loop-t
invariant-loop-t l = l.stages.items ++ map flush_stage (flushes_from l.rows l.t (drop l.t l.shape.tables)) ≡ l.initial.stages.items ++ map flush_stage (flushes_from l.rows 0 l.shape.tables)
