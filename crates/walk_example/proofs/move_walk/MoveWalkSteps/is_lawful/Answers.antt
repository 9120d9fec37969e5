use Rattle.walk_example.proofs.Lawful.{move_lawful}
use Rattle.walk_example.proofs.move_walk.MoveWalkSteps.is_lawful.Goals as goal

pub returns : goal.returns
returns c = move_lawful
