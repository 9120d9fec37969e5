use Rattle.std.proofs.Common.{◌≡◌, length}
use Rattle.std.specs.List.{AllByRecursion}
use Rattle.bit_claim.specs.Bits.{IsPlaced}
use Rattle.bit_inputs.proofs.committed.claims_on.Given as goal

abbrev pub invariant-loop-k : goal.invariant-loop-k
invariant-loop-k l = (length l.claims.items ≡ l.k) × AllByRecursion (IsPlaced l.placement) l.claims.items
