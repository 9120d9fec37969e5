use Rattle.bit_claim.proofs.PartSteps.{LeftOver}
use Rattle.bit_claim.proofs.part.eq_of_bits.Given as goal

abbrev pub invariant-loop-k : goal.invariant-loop-k
invariant-loop-k l = LeftOver l.fn.count l.number l.point l.k l.rest l.product
