use Rattle.ring_switch.proofs.TensorSteps.{FromCoordinate}
use Rattle.ring_switch.proofs.weighing.eq_at_corner.Given as goal

abbrev pub invariant-loop-k : goal.invariant-loop-k
invariant-loop-k l = FromCoordinate l.point l.p l.k l.product

abbrev pub decreases-loop-k : goal.decreases-loop-k
decreases-loop-k l = l.k
