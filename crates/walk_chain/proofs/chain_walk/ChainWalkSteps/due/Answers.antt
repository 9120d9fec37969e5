use Rattle.walk_chain.proofs.Going.{due_on}
use Rattle.walk_chain.proofs.chain_walk.ChainWalkSteps.due.Goals as goal

pub returns : goal.returns
returns g c = due_on g.A.Linked.chain _ c.is_linked.ensures.same _ _ _ c.self.view_is c.due.ensures
