use Rattle.walk_chain.proofs.Settling.{chained_lawful}
use Rattle.walk_chain.proofs.chain_walk.ChainWalkSteps.is_lawful.Goals as goal

pub returns : goal.returns
returns g c = chained_lawful g.A.Linked.chain c.is_linked.ensures.lawful
