use Rattle.std.proofs.Common.{◌∙◌, sym}
use Rattle.sumcheck.proofs.Lawful.{next_round}
use Rattle.sumcheck.proofs.sum_terms.sum_due.Goals as goal

pub returns-then-left-gt0 : goal.returns-then-left-gt0
returns-then-left-gt0 g c =
    next_round g.T.SumTerms.summing c.args.terms.now c.args.rounds.now c.left.result c.degree-then-left-gt0.result (sym c.has_passed.ensures ∙ c.if-has_passed.false) c.left.ensures c.if-left-gt0.true c.degree-then-left-gt0.ensures.degree
