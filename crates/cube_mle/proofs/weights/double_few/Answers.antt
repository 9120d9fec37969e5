use Rattle.std.proofs.Common.{get_or, refl, ap, ◌∙◌, arith}
use Rattle.tower_laws.specs.Tower.{mul}
use Rattle.cube_mle.proofs.Folds.{value_at}
use Rattle.cube_mle.proofs.Doubling.{double_end, double_more}
use Rattle.cube_mle.proofs.weights.double_few.Goals as goal

pub loop-i-preserved : goal.loop-i-preserved
loop-i-preserved c =
    let i = c.loop-i.i in
    let now = c.loop-i.table.items in
    let long = c.loop-i.invariant.long in
    let end = c.len-i-end.ensures in
    let test = c.loop-i-test.true in
    let v = value_at c.index.result.now i now c.index.ensures (omega arith) in
    double_more c.args.x i (get_or now i 0) _ c.mul-high.result c.args.table.now.items now c.put_apart.new.table.items (omega arith) c.loop-i.invariant refl (c.mul-high.ensures ∙ ap (λ t. mul t c.args.x) v) refl c.in_ok-put_apart.ensures

pub returns : goal.returns
returns c =
    let end = c.len-i-end.ensures in
    let test = c.loop-i-test.false in
    let before = c.loop-i.auto.i-end in
    double_end c.args.x c.loop-i.i c.args.table.now.items c.loop-i.table.items (omega arith) (omega arith) c.loop-i.invariant
