use Rattle.std.proofs.Common.{sym, subst}
use Rattle.proof_plan.specs.PlanParts.{PlanParts}
use Rattle.m3_verifier.specs.Begun.{StopsForRows}
use Rattle.m3_verifier.proofs.VerdictSteps.{plan_made, too_large}
use Rattle.m3_verifier.proofs.judging.plan_of_rows.Goals as goal

pub returns-in-Ok-clause-plan : goal.returns-in-Ok-clause-plan
returns-in-Ok-clause-plan c = plan_made c.args.shape.now c.args.rows.now c.in-Ok.plan c.in-Ok.ensures.plan c.in-Ok.ensures.size

pub returns-in-Err-clause-stop : goal.returns-in-Err-clause-stop
returns-in-Err-clause-stop c = subst (StopsForRows c.args.shape.now c.args.rows.now) (sym c.from.ensures) (too_large c.args.shape.now c.args.rows.now c.in-Err.stop PlanParts c.in-Err.ensures.size)
