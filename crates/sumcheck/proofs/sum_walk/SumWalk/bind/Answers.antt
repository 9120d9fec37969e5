use Rattle.sumcheck.proofs.Promise.{round_counted}
use Rattle.sumcheck.proofs.sum_walk.SumWalk.bind.Goals as goal

pub returns-clause-counted : goal.returns-clause-counted
returns-clause-counted c = round_counted c.args.self.now.rounds c.requires
