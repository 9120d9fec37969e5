use Rattle.std.proofs.Common.{ap, arith}
use Rattle.sumcheck.specs.Proving.{Proving}
use Rattle.sumcheck.proofs.RowSteps.{long_doubled, round_out}
use Rattle.sumcheck.proofs.sum_prover.SumProver.round.Goals as goal

pub sum_positions-requires-clause-long : goal.sum_positions-requires-clause-long
sum_positions-requires-clause-long g c =
    let w = c.self.inside in
    let more = ap (λ (p : Proving _). p.left) c.self.view_is in
    let r = c.requires in
    long_doubled w.left c.power-half.result _ (omega arith) c.power-half.ensures.result (rw c.as_slice.ensures.value c.self.invariant.long)

pub returns : goal.returns
returns g c = λ n e.
    let i = c.self.invariant in
    round_out g.S.Summand.form _ _ n c.power-half.result _ _ _ _ _ _ c.self.view_is e c.power-half.ensures.result i.long c.in_ok-sums.ensures c.as_slice.ensures.value c.sum_positions.ensures.sums c.as_slice-2.ensures.value c.in_ok-extend_from_slice.ensures.items
