use Rattle.std.proofs.Common.{◌∙◌, ◌*◌, [], length, ap, arith}
use Rattle.std.proofs.lemmas.List.{get_or_default}
use Rattle.cube_laws.specs.Extension.{fold_low}
use Rattle.sumcheck.proofs.RowSteps.{same_tables, long_at}
use Rattle.sumcheck.proofs.rows.fold_slice.Goals as goal

pub fold_table-requires-clause-long : goal.fold_table-requires-clause-long
fold_table-requires-clause-long c =
    let i = c.loop-i.i in
    let v = c.loop-i.invariant.long in
    let t = c.loop-i-test.true in
    let e = ap length (get_or_default c.loop-i.tables i c.index-tables-i.result [] (omega arith)) in
    let l = ap length (c.loop-i.invariant.left i (omega arith)) ∙ long_at (2 * c.args.half) i c.args.tables.now c.requires.long (omega arith) in
    omega arith

pub returns : goal.returns
returns c =
    let v = c.loop-i.invariant.long in
    let t = c.loop-i-test.false in
    same_tables (fold_low c.args.r) c.args.tables.now c.loop-i.tables v (λ k l. c.loop-i.invariant.done k (omega arith))
