use Rattle.proof_plan.specs.Plan.{group_entries}
use Rattle.proof_plan.proofs.EntrySteps.{flat_pushed}
use Rattle.proof_plan.proofs.constraints.push_groups.Goals as goal

pub loop-log-preserved : goal.loop-log-preserved
loop-log-preserved c = flat_pushed (group_entries c.args.rows c.args.table.now) c.loop-log.log c.args.entries.now.items c.loop-log.entries.items c.push_group.new.entries.items c.loop-log.invariant c.in_ok-push_group.ensures
