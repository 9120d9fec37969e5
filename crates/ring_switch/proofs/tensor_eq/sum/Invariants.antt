use Rattle.std.proofs.Common.{get_or, bit_xor}
use Rattle.ring_switch.proofs.TensorSteps.{Filled}
use Rattle.ring_switch.proofs.tensor_eq.sum.Given as goal

abbrev pub invariant-loop-u : goal.invariant-loop-u
invariant-loop-u l = Filled (λ k. bit_xor (get_or l.left k 0) (get_or l.right k 0)) l.u l.rows
