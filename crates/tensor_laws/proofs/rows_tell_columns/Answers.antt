use Rattle.tensor_laws.proofs.Crossing.{tensor_together}
use Rattle.tensor_laws.proofs.rows_tell_columns.Goals as goal

pub returns : goal.returns
returns c = tensor_together
