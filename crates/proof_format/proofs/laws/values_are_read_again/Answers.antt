use Rattle.proof_format.proofs.ValueSteps.{read_again}
use Rattle.proof_format.proofs.laws.values_are_read_again.Goals as goal

pub returns : goal.returns
returns c = read_again
