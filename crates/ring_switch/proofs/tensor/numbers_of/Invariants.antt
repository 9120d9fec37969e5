use Rattle.std.proofs.Common.{get_or}
use Rattle.ring_switch.proofs.TensorSteps.{Filled}
use Rattle.ring_switch.proofs.tensor.numbers_of.Given as goal

abbrev pub invariant-loop-u : goal.invariant-loop-u
invariant-loop-u l = Filled (λ k. get_or l.elements k 0) l.u l.numbers
