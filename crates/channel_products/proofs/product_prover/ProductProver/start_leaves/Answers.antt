use Rattle.std.proofs.Common.{◌≤◌, [], refl, subst}
use Rattle.sumcheck.specs.Proving.{Goes}
use Rattle.sumcheck.specs.Rounds.{sum_claim}
use Rattle.channel_products.specs.Descent.{sum_of_leaves}
use Rattle.channel_products.specs.Given.{table_of}
use Rattle.channel_products.specs.Summands.{leaf_term_form}
use Rattle.channel_products.specs.declared.product_prover.ProductProver.{ProductProver}
use Rattle.channel_products.specs.declared.product_prover.Standing.TheVariants.{Leaves}
use Rattle.channel_products.proofs.DescentProving.{leaves_start}
use Rattle.channel_products.proofs.product_prover.ProductProver.start_leaves.Goals as goal

pub returns-clause-follows : goal.returns-clause-follows
returns-clause-follows c = λ F s h.
    let p : ProductProver = c.args.self.now in
    let q = c.in_ok-sum.sum in
    leaves_start p (record p { sum = Leaves q }) q refl (subst (λ n. n ≤ p.layer) c.requires.vars c.requires.last)
    (λ x. subst (λ n. Goes leaf_term_form q (sum_of_leaves (table_of p.tables.now) p.at) (sum_claim 4 n [] x)) c.requires.vars (c.in_ok-sum.ensures x)) F s h
