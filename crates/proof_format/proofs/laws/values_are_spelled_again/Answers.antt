use Rattle.proof_format.proofs.ValueSteps.{spelled_again}
use Rattle.proof_format.proofs.laws.values_are_spelled_again.Goals as goal

pub returns : goal.returns
returns c = spelled_again
