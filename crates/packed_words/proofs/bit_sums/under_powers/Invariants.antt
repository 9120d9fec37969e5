use Rattle.std.proofs.Common.{◌≡◌, get_or, ◌^◌}
use Rattle.tower_laws.specs.Tower.{mul}
use Rattle.cube_laws.specs.Sums.{sum_to}
use Rattle.packed_words.proofs.bit_sums.under_powers.Given as goal

abbrev pub invariant-loop-u : goal.invariant-loop-u
invariant-loop-u l = l.total ≡ sum_to l.u (λ u. mul (get_or l.sums u 0) (2 ^ u))
