use Rattle.std.proofs.Common.{◌≡◌}
use Rattle.cube_laws.specs.Sums.{tabulate}
use Rattle.table_shape.specs.Lowering.{step}
use Rattle.channel_products.proofs.layers.steps.Given as goal

abbrev pub invariant-loop-row : goal.invariant-loop-row
invariant-loop-row l = l.steps.items ≡ tabulate l.row (step l.rows)
