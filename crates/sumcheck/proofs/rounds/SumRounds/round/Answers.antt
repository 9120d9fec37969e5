use Rattle.std.proofs.Common.{length, subst, sym, arith}
use Rattle.sumcheck.specs.Rounds.{RoundIsDue}
use Rattle.sumcheck.proofs.RoundSteps.{open_where_due}
use Rattle.sumcheck.proofs.rounds.SumRounds.round.Goals as goal

pub bounds-values-1 : goal.bounds-values-1
bounds-values-1 c =
    let w = c.self.inside in
    let o = open_where_due (length c.args.values.now) w.degree w.left w.point.items w.value w.passed.items (subst (RoundIsDue (length c.args.values.now)) (sym c.self.view_is) c.requires) in
    let l = o.whole in let p = c.self.invariant.positive in omega arith
