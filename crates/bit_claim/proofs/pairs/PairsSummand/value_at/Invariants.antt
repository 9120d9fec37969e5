use Rattle.std.proofs.Common.{◌≡◌, ◌≤◌, ◌-◌, ◌*◌, drop}
use Rattle.cube_laws.specs.Form.{value}
use Rattle.bit_claim.specs.Pairs.{pairs_form}
use Rattle.bit_claim.proofs.pairs.PairsSummand.value_at.Given as goal

abbrev pub invariant-loop-k : goal.invariant-loop-k
invariant-loop-k l = (l.k ≤ l.self.count) × (l.sum ≡ value (pairs_form (l.self.count - l.k)) (drop (2 * l.k) l.row))

abbrev pub decreases-loop-k : goal.decreases-loop-k
decreases-loop-k l = l.k
