use Rattle.proof_plan.specs.Plan.{group_columns}
use Rattle.proof_plan.proofs.EntrySteps.{flat_pushed}
use Rattle.proof_plan.proofs.columns.push_all_group_columns.Goals as goal

pub loop-log-preserved : goal.loop-log-preserved
loop-log-preserved c = flat_pushed (λ v. group_columns v c.args.table.now) c.loop-log.log c.args.claimed.now.items c.loop-log.claimed.items c.push_group_columns.new.claimed.items c.loop-log.invariant c.in_ok-push_group_columns.ensures
