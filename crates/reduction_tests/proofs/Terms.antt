-- A linear step beside its prover, once the values of the terms are told.
use Rattle.std.proofs.Common.{◌≡◌, ◌∙◌, ℕ, List, length, false, Result, Ok, Err, is_err, IfOk, sym, ap, subst}
use Rattle.sumcheck.specs.declared.column_claim.ColumnClaim.{ColumnClaim}
use Rattle.sumcheck.specs.Machine.{Filling, AwaitsMessage}
use Rattle.eval_reduce.specs.declared.linear_prover.LinearProver.{LinearProver}
use Rattle.eval_reduce.specs.Linear.{Combination, Linear, linear_entries, linear_honest, linear_message, stated, told, term_claims}
use Rattle.eval_reduce.specs.Provers.{FollowsLinear}
use Rattle.eval_reduce.proofs.LinearLaws.{length-values}

-- as many values as the step waits for
pub as_due : (F : Filling) (f : Combination) (claim : ColumnClaim) (s : Linear) (v : List ℕ) → s ≡ stated f claim → v ≡ linear_honest F (stated f claim) → AwaitsMessage (length v) (linear_entries s)
as_due F f claim s v here honest = subst (λ (x : Linear). AwaitsMessage (length v) (linear_entries x)) (sym here) (ap length honest ∙ length-values F claim.point f.table f.terms)

-- step and prover have the same claims
pub both_told : (F : Filling) (f : Combination) (claim : ColumnClaim) (s now : Linear) (p : LinearProver) (v : List ℕ) → s ≡ stated f claim → v ≡ linear_honest F (stated f claim)
    → now ≡ linear_message s v → FollowsLinear p F (linear_message (stated f claim) (linear_honest F (stated f claim)))
    → (G : Filling) × (claims : List ColumnClaim) × (_ : now ≡ told claims) × FollowsLinear p G (told claims)
both_told F f claim s now p v here honest after follows = (F, term_claims claim f.terms (linear_honest F (stated f claim)), after ∙ (λ i. linear_message (here i) (honest i)), follows)

-- what holds of a result that is no error
pub when_ok : {T E P : Type 0} (r : Result T E) → is_err r ≡ false → IfOk r (λ _. P) → P
when_ok (Ok x) e h = h
when_ok (Err x) e h = absurd cc
