use Rattle.ring_switch.proofs.TensorSteps.{more_coordinate}
use Rattle.ring_switch.proofs.weighing.eq_at_corner.Goals as goal

pub loop-k-preserved : goal.loop-k-preserved
loop-k-preserved c =
    more_coordinate c.args.point.now c.args.p c.loop-k.k c.index-point-k.result c.factor.result c.loop-k.product c.mul-product.result c.loop-k-test.true c.index-point-k.is c.factor.ensures c.mul-product.ensures c.loop-k.invariant
