use Rattle.bit_claim.proofs.BatchLaws.{batching_lawful}
use Rattle.bit_claim.proofs.bit_walk.BitWalkSteps.is_lawful.Goals as goal

pub returns : goal.returns
returns c = batching_lawful
