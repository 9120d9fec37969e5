use Rattle.std.proofs.Common.{◌≡◌, ◌≤◌, length, drop}
use Rattle.poly_laws.specs.Polynomial.{horner}
use Rattle.bit_claim.specs.Batching.{values}
use Rattle.bit_claim.proofs.batched.Batched.value.Given as goal

abbrev pub invariant-loop-i : goal.invariant-loop-i
invariant-loop-i l = (l.i ≤ length l.self.claims) × (l.sum ≡ horner (values (drop l.i l.self.claims)) l.self.lambda)

abbrev pub decreases-loop-i : goal.decreases-loop-i
decreases-loop-i l = l.i
