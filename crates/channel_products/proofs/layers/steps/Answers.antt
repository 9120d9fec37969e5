use Rattle.cube_laws.proofs.Tabulate.{tabulate_pushed}
use Rattle.table_shape.specs.Lowering.{step}
use Rattle.channel_products.proofs.layers.steps.Goals as goal

pub loop-row-preserved : goal.loop-row-preserved
loop-row-preserved c = tabulate_pushed c.loop-row.row c.step.result (step c.args.rows) c.loop-row.steps.items c.push.new.self.items c.loop-row.invariant c.in_ok-push.ensures.items c.step.ensures
