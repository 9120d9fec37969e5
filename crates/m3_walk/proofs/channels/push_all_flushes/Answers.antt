use Rattle.std.proofs.Common.{◌++◌, map}
use Rattle.channel_products.specs.Channels.{flushes_from}
use Rattle.m3_walk.specs.Course.{flush_stage}
use Rattle.m3_walk.proofs.StageSteps.{flushes_pushed}
use Rattle.m3_walk.proofs.channels.push_all_flushes.Goals as goal

pub loop-t-preserved : goal.loop-t-preserved
loop-t-preserved c =
    flushes_pushed c.args.rows.now c.loop-t.t c.args.shape.now.tables c.table_at-table.result.now c.loop-t.stages.items c.push_flushes.new.stages.items (c.args.stages.now.items ++ map flush_stage (flushes_from c.args.rows.now 0 c.args.shape.now.tables)) c.table_at-table.ensures.table c.in_ok-push_flushes.ensures c.loop-t.invariant
