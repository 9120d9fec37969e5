use Rattle.std.proofs.Common.{◌∙◌, ap, arith}
use Rattle.ring_switch.proofs.CombiningSteps.{all_mapped, more_mapped, under}
use Rattle.ring_switch.proofs.combining.combine.Goals as goal

pub loop-i-preserved : goal.loop-i-preserved
loop-i-preserved c =
    let t = c.loop-i-test.true in
    let n = c.len-i-end.ensures in
    let long = c.loop-i.invariant.long in
    more_mapped (under c.args.weights.now) c.loop-i.i c.index.result.now c.sum.result c.args.cells.now.items c.loop-i.cells.items (omega arith) (c.sum.ensures ∙ ap (under c.args.weights.now) c.index.ensures) c.loop-i.invariant

pub returns : goal.returns
returns c =
    let t = c.loop-i-test.false in
    let n = c.len-i-end.ensures in
    let long = c.loop-i.invariant.long in
    all_mapped (under c.args.weights.now) c.loop-i.i c.args.cells.now.items c.loop-i.cells.items (omega arith) c.loop-i.invariant
