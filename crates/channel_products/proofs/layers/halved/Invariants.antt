use Rattle.std.proofs.Common.{◌≡◌, ◌+◌, get_or}
use Rattle.tower_laws.specs.Tower.{mul}
use Rattle.cube_laws.specs.Sums.{tabulate}
use Rattle.channel_products.proofs.layers.halved.Given as goal

abbrev pub invariant-loop-p : goal.invariant-loop-p
invariant-loop-p l = l.products.items ≡ tabulate l.p (λ p. mul (get_or l.table p 0) (get_or l.table (p + l.fn.half) 0))
