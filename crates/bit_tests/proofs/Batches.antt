-- The walk of claims on columns beside a prover that has the table of their bits.
use Rattle.std.proofs.Common.{◌≡◌, zero, suc, true, false, Option, is_none, refl}
use Rattle.sumcheck.specs.declared.summand.Pair.{Pair}
use Rattle.sumcheck.specs.Machine.{Filling, first_entry}
use Rattle.sumcheck.specs.Proving.{Proving}
use Rattle.sumcheck.specs.Rounds.{sum_claim, round_claim}
use Rattle.sumcheck.specs.Summing.{adding, closed}
use Rattle.bit_claim.specs.declared.bit_prover.BitProver.{BitProver}
use Rattle.bit_claim.specs.BatchFollowing.{FollowsSum}
use Rattle.bit_claim.specs.Batching.{BitValue, Batching, batching_entries, opening, summed, waiting}

some_due : false ≡ true → ⊥
some_due e = cc

-- where nothing is due, the value of the bits is told
pub batch_ends : (p : BitProver) (q : Option (Proving Pair)) (F : Filling) (s : Batching) → FollowsSum p q F s → is_none (first_entry (batching_entries s)) ≡ true → (b : BitValue) × (s ≡ summed (closed b))
batch_ends p q F (waiting bs m) h e = absurd h
batch_ends p q F (opening bs cs) h e = absurd (some_due e)
batch_ends p q F (summed (adding t (sum_claim d zero z c))) h e = absurd (some_due e)
batch_ends p q F (summed (adding t (sum_claim d (suc n) z c))) h e = absurd (some_due e)
batch_ends p q F (summed (adding t (round_claim d n z v))) h e = absurd (some_due e)
batch_ends p q F (summed (closed b)) h e = (b, refl)
