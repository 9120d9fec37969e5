use Rattle.std.proofs.Common.{◌∙◌, ℕ, [], ap, subst}
use Rattle.std.proofs.lemmas.Result.{IfOk-weaker}
use Rattle.cube_laws.specs.SumClaim.{Sum}
use Rattle.layer_laws.specs.Layers.{layer_sum}
use Rattle.sumcheck.specs.Proving.{Goes}
use Rattle.sumcheck.specs.Rounds.{sum_claim}
use Rattle.channel_products.specs.Descent.{Pointed}
use Rattle.channel_products.specs.Summands.{halves_form}
use Rattle.channel_products.proofs.product_prover.layer_sum.Goals as goal

pub returns : goal.returns
returns c =
    let k = c.args.layer in
    let point = c.as_slice.ensures.value ∙ ap (λ (x : Pointed). x.point) c.at.view_is in
    IfOk-weaker c.sum_of_layer.result _ (λ sum. (x : ℕ) → Goes halves_form sum (layer_sum k c.args.at.now.point c.args.below.now) (sum_claim 3 k [] x))
    (λ sum is. λ x. subst (λ (s : Sum). Goes halves_form sum s (sum_claim 3 k [] x)) (λ i. layer_sum k (point i) (c.as_slice-2.ensures i)) (is x)) c.sum_of_layer.ensures
