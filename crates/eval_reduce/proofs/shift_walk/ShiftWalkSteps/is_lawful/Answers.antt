use Rattle.eval_reduce.proofs.ShiftLaws.{shift_lawful}
use Rattle.eval_reduce.proofs.shift_walk.ShiftWalkSteps.is_lawful.Goals as goal

pub returns : goal.returns
returns c = shift_lawful
