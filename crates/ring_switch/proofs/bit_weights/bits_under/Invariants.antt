use Rattle.ring_switch.proofs.BitSteps.{Weighing}
use Rattle.ring_switch.proofs.bit_weights.bits_under.Given as goal

abbrev pub invariant-loop-weight : goal.invariant-loop-weight
invariant-loop-weight l = Weighing l.fn.number l.weights l.weight-index l.rest l.total
