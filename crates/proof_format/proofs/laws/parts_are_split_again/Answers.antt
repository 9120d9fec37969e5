use Rattle.proof_format.proofs.TextSteps.{split_again}
use Rattle.proof_format.proofs.laws.parts_are_split_again.Goals as goal

pub returns : goal.returns
returns c = split_again
