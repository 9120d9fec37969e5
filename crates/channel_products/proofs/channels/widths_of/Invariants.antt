use Rattle.std.proofs.Common.{◌≡◌, ◌++◌, drop, map}
use Rattle.table_shape.specs.declared.shape.ChannelShape.{ChannelShape}
use Rattle.channel_products.proofs.channels.widths_of.Given as goal

abbrev pub invariant-loop-channel : goal.invariant-loop-channel
invariant-loop-channel l = l.widths ++ map (λ (c : ChannelShape). c.width) (drop l.channel-index l.channels) ≡ map (λ (c : ChannelShape). c.width) l.channels
