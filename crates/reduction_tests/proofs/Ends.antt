-- Where a prover goes along with a walk to which nothing is due, the claims are told.
use Rattle.std.proofs.Common.{◌≡◌, ◌∙◌, zero, suc, true, false, List, Option, length, is_none, refl, ap}
use Rattle.std.proofs.lemmas.List.{length-map}
use Rattle.sumcheck.specs.declared.column_claim.ColumnClaim.{ColumnClaim}
use Rattle.sumcheck.specs.Claim.{column_value}
use Rattle.sumcheck.specs.Machine.{Filling, first_entry}
use Rattle.sumcheck.specs.Proving.{Proving}
use Rattle.sumcheck.specs.Rounds.{sum_claim, round_claim}
use Rattle.sumcheck.specs.Summing.{adding, closed}
use Rattle.zerocheck.specs.declared.zero_prover.ZeroProver.{ZeroProver}
use Rattle.zerocheck.specs.Zero.{Zero, Zeroed, waiting, stated, vector, summed, zero_entries, zerocheck}
use Rattle.zerocheck.specs.ZeroProver.{FollowsSum}

some_due : false ≡ true → ⊥
some_due e = cc

pub ends_told : (p : ZeroProver) (q : Option (Proving Zeroed)) (F : Filling) (s : Zero) → FollowsSum p q F s → is_none (first_entry (zero_entries s)) ≡ true
    → (claims : List ColumnClaim) × (s ≡ summed (closed claims))
ends_told p q F (waiting g) follows none = absurd follows
ends_told p q F (stated g) follows none = absurd (some_due none)
ends_told p q F (vector g beta prefix n) follows none = absurd (some_due none)
ends_told p q F (summed (adding t (sum_claim d zero z c))) follows none = absurd (some_due none)
ends_told p q F (summed (adding t (sum_claim d (suc n) z c))) follows none = absurd (some_due none)
ends_told p q F (summed (adding t (round_claim d n z v))) follows none = absurd (some_due none)
ends_told p q F (summed (closed claims)) follows none = (claims, refl)

pub pending_count : (claims : List ColumnClaim) (w : Zero) → w ≡ summed (closed claims) → length (zerocheck.pending w) ≡ length claims
pending_count claims w e = ap (λ s. length (zerocheck.pending s)) e ∙ length-map claims column_value
