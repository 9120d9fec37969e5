use Rattle.walk_example.proofs.Steps.{bind_due}
use Rattle.walk_example.proofs.move_walk.MoveWalkSteps.draw.Goals as goal

pub bind-requires : goal.bind-requires
bind-requires c = bind_due c.self.inside.moved c.self.inside.rounds c.self.inside.closed c.args.self.now c.self.view_is c.requires
