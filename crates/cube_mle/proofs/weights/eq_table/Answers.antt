use Rattle.std.proofs.Common.{◌∙◌, ap}
use Rattle.std.proofs.lemmas.List.{take_all}
use Rattle.cube_laws.specs.Extension.{weights}
use Rattle.cube_mle.proofs.Doubling.{weights_are, weights_more}
use Rattle.cube_mle.proofs.weights.eq_table.Goals as goal

pub loop-x-preserved : goal.loop-x-preserved
loop-x-preserved c = weights_more c.args.point.now c.loop-x.x-index c.x-item.result c.loop-x.table.items c.double.new.table.items c.x-item.is c.loop-x-test.true c.loop-x.invariant c.in_ok-double.ensures

pub returns : goal.returns
returns c = c.loop-x.invariant ∙ ap weights (take_all c.loop-x.x-index c.args.point.now c.loop-x-test.false) ∙ weights_are c.args.point.now
