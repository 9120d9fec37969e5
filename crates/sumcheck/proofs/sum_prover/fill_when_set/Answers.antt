use Rattle.std.proofs.Common.{◌^◌, subst}
use Rattle.cube_laws.specs.SumClaim.{AllLong}
use Rattle.sumcheck.proofs.sum_prover.fill_when_set.Goals as goal

pub fill_firsts-requires-clause-long : goal.fill_firsts-requires-clause-long
fill_firsts-requires-clause-long c = subst (λ n. AllLong (2 ^ n) c.args.tables.now) c.if-left-eq0.true c.requires.long
