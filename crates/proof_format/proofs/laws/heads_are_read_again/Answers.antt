use Rattle.proof_format.proofs.HeadAgain.{head_again}
use Rattle.proof_format.proofs.laws.heads_are_read_again.Goals as goal

pub returns : goal.returns
returns c = head_again
