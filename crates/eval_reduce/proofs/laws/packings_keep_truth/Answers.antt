use Rattle.eval_reduce.proofs.PackLaws.{pack_lawful, vectors_counted}
use Rattle.eval_reduce.proofs.laws.packings_keep_truth.Goals as goal

pub returns : goal.returns
returns c = record { lawful = pack_lawful; counted = vectors_counted }
