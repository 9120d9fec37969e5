use Rattle.sumcheck.proofs.Lawful.{keeps_truth}
use Rattle.sumcheck.proofs.laws.sums_keep_truth.Goals as goal

pub returns : goal.returns
returns g c = keeps_truth g.T.SumTerms.summing c.requires
