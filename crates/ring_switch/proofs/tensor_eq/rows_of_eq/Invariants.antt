use Rattle.ring_switch.proofs.TensorSteps.{RowsFrom}
use Rattle.ring_switch.proofs.tensor_eq.rows_of_eq.Given as goal

abbrev pub invariant-loop-k : goal.invariant-loop-k
invariant-loop-k l = RowsFrom l.high l.at l.count l.k l.rows

abbrev pub decreases-loop-k : goal.decreases-loop-k
decreases-loop-k l = l.k
