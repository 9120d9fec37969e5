use Rattle.column_store.specs.Column.{lists}
use Rattle.m3_judge.specs.Judging.{IsZeroOn}
use Rattle.m3_judge.proofs.constraints.first_between.Given as goal

abbrev pub invariant-loop-row : goal.invariant-loop-row
invariant-loop-row g l = IsZeroOn (lists l.columns) l.constraint l.row
