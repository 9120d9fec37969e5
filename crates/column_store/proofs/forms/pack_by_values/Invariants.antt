use Rattle.std.proofs.Common.{◌≡◌, ◌+◌, ◌*◌, ◌^◌, get_or}
use Rattle.tower_laws.specs.Tower.{mul}
use Rattle.cube_laws.specs.Sums.{sum_to}
use Rattle.column_store.proofs.forms.pack_by_values.Given as goal

abbrev pub invariant-loop-u : goal.invariant-loop-u
invariant-loop-u l = l.sum ≡ sum_to l.u (λ u. mul (2 ^ (u * 2 ^ l.level)) (get_or l.source.values (l.position * 2 ^ l.log + u) 0))
