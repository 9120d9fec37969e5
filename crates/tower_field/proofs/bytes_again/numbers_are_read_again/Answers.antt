use Rattle.tower_field.proofs.BytesAgain.{number_again}
use Rattle.tower_field.proofs.bytes_again.numbers_are_read_again.Goals as goal

pub returns : goal.returns
returns c = number_again
