use Rattle.std.proofs.Common.{◌++◌, map, arith}
use Rattle.channel_products.specs.Channels.{flushes_of}
use Rattle.m3_walk.specs.Course.{flush_stage}
use Rattle.m3_walk.proofs.StageSteps.{flush_pushed}
use Rattle.m3_walk.proofs.channels.push_flushes.Goals as goal

pub loop-flush-preserved : goal.loop-flush-preserved
loop-flush-preserved c =
    let below = c.loop-flush-test.true in
    let all = c.len-flushes.ensures in
    flush_pushed c.args.shape.now.tables c.args.t c.loop-flush.flush c.args.rows c.args.table.now c.loop-flush.stages.items c.push_flush.new.stages.items (c.args.stages.now.items ++ map flush_stage (flushes_of c.args.t c.args.rows 0 c.args.table.now.flushes)) c.requires.table (omega arith) c.in_ok-push_flush.ensures c.loop-flush.invariant
