use Rattle.tower_field.proofs.BytesAgain.{bytes_again}
use Rattle.tower_field.proofs.bytes_again.bytes_are_spelled_again.Goals as goal

pub returns : goal.returns
returns c = bytes_again
