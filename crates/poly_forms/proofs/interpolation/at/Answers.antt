use Rattle.std.proofs.Common.{refl}
use Rattle.poly_forms.proofs.Interpolating.{at_none, at_more, at_all}
use Rattle.poly_forms.proofs.interpolation.at.Goals as goal

pub loop-i-init : goal.loop-i-init
loop-i-init c = at_none c.args.values.now c.args.x 0 refl

pub loop-i-preserved : goal.loop-i-preserved
loop-i-preserved c = at_more c.loop-i.i c.args.x c.index-values-i.result c.basis_at.result c.loop-i.sum c.add-sum.result c.args.values.now c.index-values-i.is c.loop-i-test.true c.basis_at.ensures (cc) c.loop-i.invariant

pub returns : goal.returns
returns c = at_all c.loop-i.i c.args.x c.loop-i.sum c.args.values.now c.loop-i-test.false c.loop-i.invariant
