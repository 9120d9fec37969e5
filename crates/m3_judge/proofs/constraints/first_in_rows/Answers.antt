use Rattle.std.proofs.Common.{◌+◌, ◌≤◌, refl, arith}
use Rattle.column_store.specs.Column.{lists}
use Rattle.m3_judge.proofs.Searching.{IsZeroOn-between}
use Rattle.m3_judge.proofs.constraints.first_in_rows.Goals as goal

pub loop-row-preserved : goal.loop-row-preserved
loop-row-preserved g c =
    let e = c.min-next.ensures in
    let order : c.min-next.result ≤ c.args.rows = omega (arith, e) in
    let within : c.min-next.result ≤ c.loop-row.row + 16 = omega (arith, e) in
    record {
      order = order;
      zero = IsZeroOn-between (lists c.args.columns.now) c.args.constraint.now c.loop-row.row 16 c.min-next.result c.loop-row.invariant.zero (c.if-not-are_zero_rows.ensures refl) within;
    }
