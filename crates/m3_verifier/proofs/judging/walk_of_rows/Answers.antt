use Rattle.std.proofs.Common.{sym, subst}
use Rattle.walk_chain.specs.Chain.{Chained}
use Rattle.m3_walk.specs.declared.stage.Stage.{Stage}
use Rattle.m3_walk.specs.Kept.{Kept}
use Rattle.m3_verifier.specs.Begun.{StopsForRows}
use Rattle.m3_verifier.proofs.VerdictSteps.{too_large, walk_made}
use Rattle.m3_verifier.proofs.judging.walk_of_rows.Goals as goal

pub returns-in-Ok-clause-walk : goal.returns-in-Ok-clause-walk
returns-in-Ok-clause-walk c = walk_made c.args.shape.now c.args.rows.now c.in-Ok.walk c.in-Ok.ensures.state c.in-Ok.ensures.entries

pub returns-in-Err-clause-stop : goal.returns-in-Err-clause-stop
returns-in-Err-clause-stop c = subst (StopsForRows c.args.shape.now c.args.rows.now) (sym c.from.ensures) (too_large c.args.shape.now c.args.rows.now c.in-Err.stop (Chained Stage Kept) c.in-Err.ensures.size)
