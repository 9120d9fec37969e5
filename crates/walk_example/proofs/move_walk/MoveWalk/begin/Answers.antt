use Rattle.std.proofs.Common.{◌∙◌, ap}
use Rattle.sumcheck.specs.Rounds.{with_claim}
use Rattle.walk_example.proofs.Moving.{begin_same}
use Rattle.walk_example.proofs.move_walk.MoveWalk.begin.Goals as goal

pub returns-clause-same : goal.returns-clause-same
returns-clause-same c = λ F l f. begin_same F (record { claim = c.args.claim }) c.args.vars c.enter.new.self (c.enter.ensures ∙ ap (with_claim c.args.claim.value) c.in_ok-rounds.ensures) l f
