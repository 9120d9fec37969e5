use Rattle.std.proofs.Common.{◌≡◌, ◌+◌, ◌*◌, ◌/◌, length, take, arith, ◌∙◌, ap}
use Rattle.std.proofs.Math.ListN.{length-set}
use Rattle.cube_mle.proofs.Folds.{value_at, fold_more, fold_left, fold_end}
use Rattle.cube_mle.proofs.fold.fold_low.Goals as goal

pub loop-i-preserved : goal.loop-i-preserved
loop-i-preserved c =
    let even = c.requires.even in
    let half = length c.args.table.now.items / 2 in
    let n : length c.args.table.now.items ≡ 2 * half = omega arith in
    let s = c.len-half.ensures in
    let t = c.loop-i-test.true in
    let long = c.loop-i.invariant.long in
    let a = value_at c.index-low.result.now (2 * c.loop-i.i) c.loop-i.table.items c.index-low.ensures (omega arith) in
    let b = value_at c.index-high.result.now (2 * c.loop-i.i + 1) c.loop-i.table.items c.index-high.ensures (omega arith) in
    record {
      long = length-set c.loop-i.table.items c.loop-i.i c.between.result ∙ long;
      done = fold_more half c.loop-i.i c.args.r c.index-low.result.now c.index-high.result.now c.between.result c.args.table.now.items c.loop-i.table.items n (omega arith) long c.loop-i.invariant.done c.loop-i.invariant.left a b (cc);
      left = fold_left c.loop-i.i c.between.result c.args.table.now.items c.loop-i.table.items c.loop-i.invariant.left;
    }

pub returns : goal.returns
returns c =
    let even = c.requires.even in
    let half = length c.args.table.now.items / 2 in
    let n : length c.args.table.now.items ≡ 2 * half = omega arith in
    let s = c.len-half.ensures in
    let t = c.loop-i-test.false in
    let h : c.len-half.result / 2 ≡ half = omega arith in
    c.truncate.ensures.items ∙ ap (λ k. take k c.loop-i.table.items) h ∙ fold_end half c.loop-i.i c.args.r c.args.table.now.items c.loop-i.table.items n (omega arith) c.loop-i.invariant.long c.loop-i.invariant.done
