use Rattle.std.proofs.Common.{◌++◌, arith}
use Rattle.m3_walk.specs.Course.{constraint_stages}
use Rattle.m3_walk.proofs.StageSteps.{groups_pushed}
use Rattle.m3_walk.proofs.constraints.push_constraints.Goals as goal

pub loop-t-preserved : goal.loop-t-preserved
loop-t-preserved c =
    let below = c.loop-t-test.true in
    let end_is = c.table_count-t-end.ensures.count in
    groups_pushed c.args.shape.now.tables c.args.rows.now c.loop-t.t c.args.shape.now.tables c.loop-t.stages.items c.push_groups.new.stages.items (c.args.stages.now.items ++ constraint_stages c.args.shape.now.tables c.args.rows.now 0 c.args.shape.now.tables) (omega arith) c.in_ok-push_groups.ensures c.loop-t.invariant
