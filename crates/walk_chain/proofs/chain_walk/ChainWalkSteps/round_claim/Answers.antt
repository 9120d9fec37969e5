use Rattle.walk_chain.proofs.Going.{round_on}
use Rattle.walk_chain.proofs.chain_walk.ChainWalkSteps.round_claim.Goals as goal

pub returns : goal.returns
returns g c = round_on g.A.Linked.chain _ c.is_linked.ensures.same _ _ _ c.self.view_is c.round_claim.ensures
