use Rattle.std.proofs.Common.{◌≡◌, drop, max}
use Rattle.table_shape.specs.Counts.{gamma_counts}
use Rattle.table_shape.specs.Value.{greatest}
use Rattle.channel_products.proofs.counts.gamma_count.Given as goal

abbrev pub invariant-loop-c : goal.invariant-loop-c
invariant-loop-c l = max l.greatest (greatest (gamma_counts l.shape l.rows l.c (drop l.c l.shape.channels))) ≡ greatest (gamma_counts l.shape l.rows 0 l.shape.channels)
