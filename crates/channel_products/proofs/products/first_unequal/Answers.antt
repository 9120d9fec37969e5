use Rattle.channel_products.proofs.ProductSteps.{channel_equal, equal_sides}
use Rattle.channel_products.proofs.products.first_unequal.Goals as goal

pub loop-channel-preserved : goal.loop-channel-preserved
loop-channel-preserved c =
    channel_equal c.args.alpha c.args.gamma c.args.channels.now c.args.values.now c.loop-channel.channel _ _ (rw c.len-channel-end.ensures at c.loop-channel-test.true)
    (equal_sides c.side_value-left.result c.side_value-right.result _ _ c.ne.result c.side_value-left.ensures c.side_value-right.ensures c.ne.ensures c.if-ne.false) c.loop-channel.invariant
