use Rattle.std.proofs.Common.{◌≡◌, get_or}
use Rattle.tower_laws.specs.Tower.{mul}
use Rattle.cube_laws.specs.Sums.{sum_to}
use Rattle.cube_laws.specs.Extension.{eq}
use Rattle.ring_switch.proofs.weighing.under_weights.Given as goal

abbrev pub invariant-loop-p : goal.invariant-loop-p
invariant-loop-p l = l.total ≡ sum_to l.p (λ p. mul (get_or l.values p 0) (eq l.point p))
