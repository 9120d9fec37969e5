use Rattle.sumcheck.proofs.RowSteps.{exponent_done}
use Rattle.sumcheck.proofs.sum_prover.exponent.Goals as goal

pub returns-clause-exact : goal.returns-clause-exact
returns-clause-exact c =
    let i = c.loop-m.invariant in
    exponent_done c.loop-m.m i.0 c.args.size c.power.result c.power.ensures.result i.3 i.1 c.loop-m-test.false
