use Rattle.std.proofs.Common.{◌∙◌, ◌^◌, sym, ap, length}
use Rattle.channel_products.specs.Channels.{leaves_of}
use Rattle.channel_products.specs.Descent.{Pointed}
use Rattle.channel_products.specs.Given.{table_of}
use Rattle.channel_products.proofs.DescentLaws.{length-leaves}
use Rattle.channel_products.proofs.product_prover.all_layers.Goals as goal

pub layers_below-requires-clause-long : goal.layers_below-requires-clause-long
layers_below-requires-clause-long c =
    let t = c.args.at.now in
    let F = table_of c.args.tables.now in
    ap length (c.in_ok-leaves.ensures ∙ ap (λ (x : Pointed). leaves_of F x.alpha x.gamma x.flushed) c.at.view_is) ∙ length-leaves F t.alpha t.gamma t.flushed ∙ ap (λ n. 2 ^ n) (sym c.requires.vars)
