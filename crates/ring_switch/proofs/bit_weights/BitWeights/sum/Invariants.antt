use Rattle.ring_switch.proofs.BitSteps.{Byting}
use Rattle.ring_switch.proofs.bit_weights.BitWeights.sum.Given as goal

abbrev pub invariant-loop-place : goal.invariant-loop-place
invariant-loop-place l = Byting l.fn.element l.fn.self l.place l.rest l.total
