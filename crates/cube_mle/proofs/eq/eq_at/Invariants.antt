use Rattle.std.proofs.Common.{◌≡◌, ◌≤◌, length, drop}
use Rattle.cube_laws.specs.Extension.{eq_points}
use Rattle.cube_mle.proofs.eq.eq_at.Given as goal

abbrev pub invariant-loop-k : goal.invariant-loop-k
invariant-loop-k l = ((l.k ≤ length l.x) × (l.k ≤ length l.y)) × (l.product ≡ eq_points (drop l.k l.x) (drop l.k l.y))

abbrev pub decreases-loop-k : goal.decreases-loop-k
decreases-loop-k l = l.k
