use Rattle.std.proofs.Common.{◌∙◌, List, [], ℕ, length, ap, subst}
use Rattle.std.proofs.lemmas.Result.{IfOk-weaker}
use Rattle.cube_laws.specs.SumClaim.{Sum}
use Rattle.batch_laws.specs.Batch.{eq_sum}
use Rattle.layer_laws.specs.LeafForm.{leaf_form}
use Rattle.sumcheck.specs.Proving.{Goes}
use Rattle.sumcheck.specs.Rounds.{sum_claim}
use Rattle.channel_products.specs.Descent.{leaf_lists, sum_of_leaves}
use Rattle.channel_products.specs.Given.{table_of}
use Rattle.channel_products.specs.Summands.{leaf_term_form}
use Rattle.channel_products.proofs.product_prover.leaf_sum.Goals as goal

pub returns : goal.returns
returns c =
    let F = table_of c.args.tables.now in
    let same = ap (λ (z : List ℕ). eq_sum z (leaf_form c.at.inside.alpha c.at.inside.gamma (length c.at.inside.flushed.shape.columns)) (leaf_lists F c.at.inside.flushed)) c.as_slice-point.ensures.value ∙ ap (sum_of_leaves F) c.at.view_is in
    IfOk-weaker c.sum_of_leaves.result _ (λ sum. (x : ℕ) → Goes leaf_term_form sum (sum_of_leaves F c.args.at.now) (sum_claim 4 c.args.vars [] x))
    (λ sum is. λ x. subst (λ (s : Sum). Goes leaf_term_form sum s (sum_claim 4 c.args.vars [] x)) same (is x)) c.sum_of_leaves.ensures
