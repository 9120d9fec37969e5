use Rattle.std.proofs.Common.{◌∙◌, arith}
use Rattle.ring_switch.proofs.TensorSteps.{factor_one, factor_zero}
use Rattle.ring_switch.proofs.weighing.factor.Goals as goal

pub returns-then-p-k-eq0 : goal.returns-then-p-k-eq0
returns-then-p-k-eq0 c = c.add.ensures ∙ factor_zero c.args.x _ c.if-p-k-eq0.true

pub returns-else-p-k-eq0 : goal.returns-else-p-k-eq0
returns-else-p-k-eq0 c = let t = c.if-p-k-eq0.false in factor_one c.args.x _ (omega arith)
