use Rattle.eval_reduce.proofs.Lawful.{merge_lawful}
use Rattle.eval_reduce.proofs.laws.merges_keep_truth.Goals as goal

pub returns : goal.returns
returns c = merge_lawful
