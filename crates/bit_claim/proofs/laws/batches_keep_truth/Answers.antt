use Rattle.bit_claim.proofs.BatchLaws.{batching_lawful}
use Rattle.bit_claim.proofs.FilledBits.{fillings_have_bits}
use Rattle.bit_claim.proofs.laws.batches_keep_truth.Goals as goal

pub returns : goal.returns
returns c = record { lawful = batching_lawful; filled = fillings_have_bits }
