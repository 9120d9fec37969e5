use Rattle.ring_switch.proofs.TensorSteps.{at_point}
use Rattle.ring_switch.proofs.tensor_eq.tensor_eq_at.Goals as goal

pub returns : goal.returns
returns c = at_point c.args.high.now c.args.at.now c.args.combine.now c.rows_of_eq.result c.under_weights.result c.told-combine c.rows_of_eq.ensures c.under_weights.ensures
