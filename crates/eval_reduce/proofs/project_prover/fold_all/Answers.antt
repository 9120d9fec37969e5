use Rattle.std.proofs.Common.{◌∙◌, arith}
use Rattle.cube_mle.proofs.Folds.{all_set, set_next, still_even, value_at}
use Rattle.eval_reduce.proofs.project_prover.fold_all.Goals as goal

pub fold_low-requires-clause-some : goal.fold_low-requires-clause-some
fold_low-requires-clause-some c =
    let e = still_even c.loop-x.table.items c.args.table.now.items c.args.point.now c.loop-x.x-index c.loop-x-test.true c.loop-x.invariant in
    let positive = e.1 in
    let double = e.2 in
    omega arith

pub fold_low-requires-clause-even : goal.fold_low-requires-clause-even
fold_low-requires-clause-even c =
    let e = still_even c.loop-x.table.items c.args.table.now.items c.args.point.now c.loop-x.x-index c.loop-x-test.true c.loop-x.invariant in
    let double = e.2 in
    omega arith

pub loop-x-preserved : goal.loop-x-preserved
loop-x-preserved c = set_next c.loop-x.table.items c.fold_low.new.table.items c.args.table.now.items c.args.point.now c.loop-x.x-index c.x-item.result c.x-item.is c.loop-x-test.true c.loop-x.invariant c.fold_low.ensures

pub returns : goal.returns
returns c =
    let e = all_set c.loop-x.table.items c.args.table.now.items c.args.point.now c.loop-x.x-index c.loop-x-test.false c.loop-x.invariant in
    let long = e.0 in
    value_at c.index.result.now 0 c.loop-x.table.items c.index.ensures (omega arith) ∙ e.1
