use Rattle.proof_format.proofs.TextSteps.{head_and_pieces}
use Rattle.proof_format.proofs.laws.proofs_are_head_and_pieces.Goals as goal

pub returns : goal.returns
returns c = head_and_pieces
