use Rattle.walk_example.proofs.Steps.{draw_goes_on}
use Rattle.walk_example.proofs.move_prover.MoveProverHonest.draw.Goals as goal

pub returns : goal.returns
returns c = draw_goes_on c.args.self.now.sum c.bind.new.self c.args.c c.bind.ensures
