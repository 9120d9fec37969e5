use Rattle.eval_reduce.proofs.LinearLaws.{linear_lawful}
use Rattle.eval_reduce.proofs.laws.combinations_keep_truth.Goals as goal

pub returns : goal.returns
returns c = linear_lawful
