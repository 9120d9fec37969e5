use Rattle.std.proofs.Common.{get_or}
use Rattle.tower_laws.specs.Tower.{mul}
use Rattle.ring_switch.proofs.TensorSteps.{Filled}
use Rattle.ring_switch.proofs.tensor_eq.multiples.Given as goal

abbrev pub invariant-loop-u : goal.invariant-loop-u
invariant-loop-u l = Filled (λ k. mul l.c (get_or l.elements k 0)) l.u l.products
