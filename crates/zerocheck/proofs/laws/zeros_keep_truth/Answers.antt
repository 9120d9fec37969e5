use Rattle.zerocheck.proofs.FirstLaws.{first_means}
use Rattle.zerocheck.proofs.ZeroLaws.{zero_lawful, vectors_counted}
use Rattle.zerocheck.proofs.laws.zeros_keep_truth.Goals as goal

pub returns : goal.returns
returns c = record { lawful = zero_lawful; counted = vectors_counted; first = first_means }
