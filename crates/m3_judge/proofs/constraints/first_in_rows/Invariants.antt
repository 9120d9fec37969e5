use Rattle.std.proofs.Common.{◌-◌, ◌≤◌}
use Rattle.column_store.specs.Column.{lists}
use Rattle.m3_judge.specs.Judging.{IsZeroOn}
use Rattle.m3_judge.proofs.constraints.first_in_rows.Given as goal

abbrev pub decreases-loop-row : goal.decreases-loop-row
decreases-loop-row g l = l.rows - l.row

abbrev pub invariant-loop-row : goal.invariant-loop-row
invariant-loop-row g l = record {
  order : l.row ≤ l.rows;
  zero : IsZeroOn (lists l.columns) l.constraint l.row;
}
