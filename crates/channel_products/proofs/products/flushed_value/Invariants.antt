use Rattle.std.proofs.Common.{◌≡◌, drop}
use Rattle.tower_laws.specs.Tower.{mul}
use Rattle.channel_products.specs.Balancing.{flushed_value}
use Rattle.channel_products.proofs.products.flushed_value.Given as goal

abbrev pub invariant-loop-i : goal.invariant-loop-i
invariant-loop-i l = mul l.product (flushed_value l.side l.channel (drop l.i l.flushes) (drop l.i l.values)) ≡ flushed_value l.side l.channel l.flushes l.values
