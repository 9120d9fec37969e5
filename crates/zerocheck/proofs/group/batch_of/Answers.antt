use Rattle.std.proofs.Common.{◌∙◌, ◌-◌, ap, bit_xor, arith}
use Rattle.zerocheck.proofs.GroupSteps.{batch_more}
use Rattle.zerocheck.proofs.group.batch_of.Goals as goal

pub loop-i-preserved : goal.loop-i-preserved
loop-i-preserved c =
    let t = c.loop-i-test.true in
    let b = c.loop-i.invariant.0 in (
      omega arith,
      batch_more c.args.forms.now (c.loop-i.i - 1) c.loop-i.i c.index-forms-i.result c.args.values.now c.args.beta c.loop-i.sum c.eval.result c.add-sum.result c.index-forms-i.is (omega arith) (omega arith) c.loop-i.invariant.1 c.eval.ensures (c.add-sum.ensures ∙ ap (bit_xor c.eval.result) c.mul.ensures),
    )
