use Rattle.proof_format.proofs.PieceSteps.{of_entries}
use Rattle.proof_format.proofs.laws.pieces_are_as_long.Goals as goal

pub returns : goal.returns
returns c = of_entries
