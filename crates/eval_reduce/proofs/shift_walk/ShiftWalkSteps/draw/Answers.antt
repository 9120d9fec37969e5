use Rattle.eval_reduce.proofs.ShiftLaws.{bind_due}
use Rattle.eval_reduce.proofs.shift_walk.ShiftWalkSteps.draw.Goals as goal

pub bind-requires : goal.bind-requires
bind-requires c = bind_due _ _ _ _ _ c.self.view_is c.requires
