use Rattle.eval_reduce.proofs.PackLaws.{pack_lawful}
use Rattle.eval_reduce.proofs.pack_walk.PackWalkSteps.is_lawful.Goals as goal

pub returns : goal.returns
returns c = pack_lawful
