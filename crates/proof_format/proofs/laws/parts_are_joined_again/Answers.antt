use Rattle.proof_format.proofs.TextSteps.{joined_again}
use Rattle.proof_format.proofs.laws.parts_are_joined_again.Goals as goal

pub returns : goal.returns
returns c = joined_again
