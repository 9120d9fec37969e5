use Rattle.std.proofs.Common.{◌≡◌, ◌*◌, ◌^◌, slice_index}
use Rattle.tower_laws.specs.Tower.{mul}
use Rattle.cube_laws.specs.Sums.{sum_to}
use Rattle.eval_reduce.proofs.packing.Packing.value.Given as goal

abbrev pub invariant-loop-u : goal.invariant-loop-u
invariant-loop-u l = l.sum ≡ sum_to l.u (λ u. mul (2 ^ (u * 2 ^ l.self.level)) (slice_index l.values u))
