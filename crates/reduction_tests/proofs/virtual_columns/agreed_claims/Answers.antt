use Rattle.std.proofs.Common.{sym, subst}
use Rattle.eval_reduce.specs.Linear.{LinearIsDone}
use Rattle.reduction_tests.proofs.virtual_columns.agreed_claims.Goals as goal

pub claim_count-requires : goal.claim_count-requires
claim_count-requires c = subst LinearIsDone (sym c.requires.2) tt

pub claim_count-requires-2 : goal.claim_count-requires-2
claim_count-requires-2 c = (c.requires.0, c.requires.1, c.requires.3)
