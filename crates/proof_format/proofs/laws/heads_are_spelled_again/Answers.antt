use Rattle.proof_format.proofs.HeadAgain.{head_spelled}
use Rattle.proof_format.proofs.laws.heads_are_spelled_again.Goals as goal

pub returns : goal.returns
returns c = head_spelled
