use Rattle.column_store.specs.Column.{lists}
use Rattle.m3_judge.proofs.Searching.{IsZeroOn-more, found_in_row}
use Rattle.m3_judge.proofs.constraints.first_between.Goals as goal

pub loop-row-preserved : goal.loop-row-preserved
loop-row-preserved g c = IsZeroOn-more (lists c.args.columns.now) c.args.constraint.now c.loop-row.row c.loop-row.invariant c.in_default.ensures.none

pub returns-in-Some : goal.returns-in-Some
returns-in-Some g c = found_in_row (lists c.args.columns.now) c.args.constraint.now c.loop-row.row c.args.to c.in-Some.found c.loop-row-test.true c.loop-row.invariant c.in-Some.ensures.first
