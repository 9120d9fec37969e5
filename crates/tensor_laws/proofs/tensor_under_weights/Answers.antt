use Rattle.tensor_laws.proofs.Crossing.{columns_extension, rows_at}
use Rattle.tensor_laws.proofs.tensor_under_weights.Goals as goal

pub returns : goal.returns
returns c = record { columns = columns_extension; rows = rows_at }
