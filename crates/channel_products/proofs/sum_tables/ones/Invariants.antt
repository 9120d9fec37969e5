use Rattle.std.proofs.Common.{◌≡◌}
use Rattle.cube_laws.specs.Sums.{tabulate}
use Rattle.channel_products.proofs.sum_tables.ones.Given as goal

abbrev pub invariant-loop : goal.invariant-loop
invariant-loop l = l.ones.items ≡ tabulate l.counter (λ row. 1)
