use Rattle.std.proofs.Common.{ap}
use Rattle.channel_products.specs.declared.product_prover.ProductProver.{ProductProver}
use Rattle.channel_products.specs.Descent.{Pointed}
use Rattle.channel_products.proofs.DescentProving.{entered}
use Rattle.channel_products.proofs.product_prover.ProductProver.enter.Goals as goal

pub returns : goal.returns
returns c = λ F f tables h k.
    let p : ProductProver = c.args.self.now in
    entered p (record p { at = c.state.new.self }) c.args.alpha c.args.gamma c.args._product (ap (λ (t : Pointed). record p { at = t }) c.state.ensures) F f tables h k
