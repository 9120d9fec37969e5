use Rattle.std.proofs.Common.{◌≡◌, ◌-◌, length}
use Rattle.channel_products.specs.Balancing.{first_unequal}
use Rattle.channel_products.proofs.products.first_unequal.Given as goal

abbrev pub invariant-loop-channel : goal.invariant-loop-channel
invariant-loop-channel l = first_unequal l.alpha l.gamma l.channels l.values l.channel (length l.channels.widths - l.channel) ≡ first_unequal l.alpha l.gamma l.channels l.values 0 (length l.channels.widths)
