use Rattle.column_laws.proofs.Placing.{placed_truth, placed_point, length-placed}
use Rattle.column_laws.proofs.columns_are_placed.Goals as goal

pub returns : goal.returns
returns c = record { truth = placed_truth; at_point = placed_point; size = length-placed }
