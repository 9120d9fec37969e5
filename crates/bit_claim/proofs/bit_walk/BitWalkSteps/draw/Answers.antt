use Rattle.bit_claim.proofs.WalkSteps.{bind_due}
use Rattle.bit_claim.proofs.bit_walk.BitWalkSteps.draw.Goals as goal

pub bind-requires : goal.bind-requires
bind-requires c = bind_due _ _ _ _ _ _ c.self.view_is c.in-Adding.is c.requires
