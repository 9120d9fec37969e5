use Rattle.std.proofs.Common.{◌≡◌, ◌≤◌, length, drop, map}
use Rattle.poly_laws.specs.Polynomial.{horner}
use Rattle.bit_claim.specs.Bits.{claim_at}
use Rattle.bit_claim.proofs.batched.batch_at.Given as goal

abbrev pub invariant-loop-i : goal.invariant-loop-i
invariant-loop-i l = (l.i ≤ length l.claims) × (l.sum ≡ horner (map (claim_at l.placement l.point) (drop l.i l.claims)) l.lambda)

abbrev pub decreases-loop-i : goal.decreases-loop-i
decreases-loop-i l = l.i
