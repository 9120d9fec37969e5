use Rattle.std.proofs.Common.{◌≡◌, arith}
use Rattle.ring_switch.proofs.TensorSteps.{all_weighed, more_weighed}
use Rattle.ring_switch.proofs.weighing.under_weights.Goals as goal

pub loop-p-preserved : goal.loop-p-preserved
loop-p-preserved c =
    more_weighed c.args.values.now c.args.point.now c.loop-p.p c.loop-p.total c.index-values-p.result c.eq_at_corner.result c.mul.result c.add-total.result c.loop-p-test.true c.told-values c.loop-p.invariant c.eq_at_corner.ensures c.mul.ensures c.add-total.ensures

pub returns : goal.returns
returns c = let t = c.loop-p-test.false in let e : c.loop-p.p ≡ 128 = omega arith in all_weighed c.args.values.now c.args.point.now c.loop-p.p c.loop-p.total e c.requires c.loop-p.invariant
