use Rattle.std.proofs.Common.{◌∙◌, ap, subst}
use Rattle.channel_products.specs.declared.channels.Channels.{Channels}
use Rattle.channel_products.specs.Given.{AreThere}
use Rattle.channel_products.proofs.GivenSteps.{each_there}
use Rattle.channel_products.proofs.given.has_lists.Goals as goal

pub returns-clause-each : goal.returns-clause-each
returns-clause-each c = λ h.
    let own = c.as_slice.ensures ∙ ap (λ (ch : Channels). ch.flushes) c.in_ok-channels.ensures.channels in
    each_there c.args.shape.now.tables c.args.rows.now c.args.tables.now (subst (AreThere c.args.tables.now) own (c.all_there.ensures.0 h))
