use Rattle.eval_reduce.proofs.Lawful.{merge_lawful}
use Rattle.eval_reduce.proofs.merge_walk.MergeWalkSteps.is_lawful.Goals as goal

pub returns : goal.returns
returns c = merge_lawful
