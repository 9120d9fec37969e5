use Rattle.std.proofs.Common.{◌∙◌, ap, refl, arith}
use Rattle.channel_products.specs.Channels.{leaves_of}
use Rattle.channel_products.specs.Given.{table_of}
use Rattle.channel_products.specs.Stacked.{stacked}
use Rattle.channel_products.specs.declared.product_prover.ProductProver.{ProductProver}
use Rattle.channel_products.proofs.DescentProving.{all_kept}
use Rattle.channel_products.proofs.product_prover.ProductProver.ready.Goals as goal

pub returns-clause-kept : goal.returns-clause-kept
returns-clause-kept c = λ F t d h.
    let p : ProductProver = c.args.self.now in
    let none = c.if-self-gt0.false in
    all_kept p F t d p.layer c.in_ok-self.field-0.items refl h (λ z. c.in_ok-self.ensures ∙ ap (stacked (leaves_of (table_of p.tables.now) p.at.alpha p.at.gamma p.at.flushed) 0) c.requires.vars) (λ some. absurd (some (omega arith)))
