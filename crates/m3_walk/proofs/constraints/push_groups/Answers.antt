use Rattle.proof_plan.proofs.EntrySteps.{flat_pushed}
use Rattle.m3_walk.specs.Course.{group_stages}
use Rattle.m3_walk.proofs.constraints.push_groups.Goals as goal

pub loop-log-preserved : goal.loop-log-preserved
loop-log-preserved c = flat_pushed (group_stages c.args.shape.now.tables c.args.rows c.args.t) c.loop-log.log c.args.stages.now.items c.loop-log.stages.items c.push_group.new.stages.items c.loop-log.invariant c.in_ok-push_group.ensures
