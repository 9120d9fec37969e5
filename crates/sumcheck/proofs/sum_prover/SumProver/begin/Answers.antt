use Rattle.std.proofs.Common.{◌<◌, ◌∙◌, ◌^◌, ℕ, List, [], length, ap, subst, sym}
use Rattle.std.proofs.lemmas.List.{get_or_default}
use Rattle.cube_laws.specs.SumClaim.{AllLong}
use Rattle.sumcheck.proofs.RowSteps.{first_exponent, same_exponent}
use Rattle.sumcheck.proofs.sum_prover.SumProver.begin.Goals as goal

pub returns : goal.returns
returns g c = λ m h.
    let lists = c.into_vec-tables.result.items in
    let some : 0 < length lists = subst (λ (ts : List (List ℕ)). 0 < length ts) (sym c.into_vec-tables.ensures) c.requires.some in
    let long = subst (AllLong (2 ^ m)) (sym c.into_vec-tables.ensures) h in
    let first = ap length (c.as_slice.ensures ∙ c.index-first.ensures ∙ get_or_default lists 0 c.index-first.result.now [] some) in
    let size = first_exponent m (length c.as_slice.result.now) lists some first long in
    let left = same_exponent c.exponent-left.result m (sym c.exponent-left.ensures.exact ∙ size) in
    λ i. record { summand = c.args.summand; degree = c.args.degree; left = left i; lists = c.into_vec-tables.ensures i }
