use Rattle.std.proofs.Common.{◌≡◌, ◌≤◌, length, drop}
use Rattle.column_laws.specs.Basis.{basis_at}
use Rattle.bit_claim.proofs.part.basis_at.Given as goal

abbrev pub invariant-loop-k : goal.invariant-loop-k
invariant-loop-k l = (l.k ≤ length l.point) × (l.product ≡ basis_at l.k (drop l.k l.point))

abbrev pub decreases-loop-k : goal.decreases-loop-k
decreases-loop-k l = l.k
