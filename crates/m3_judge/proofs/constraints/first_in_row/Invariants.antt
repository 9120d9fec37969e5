use Rattle.column_store.specs.Column.{lists}
use Rattle.m3_judge.specs.Judging.{IsZeroAtIndices}
use Rattle.m3_judge.proofs.constraints.first_in_row.Given as goal

abbrev pub invariant-loop-index : goal.invariant-loop-index
invariant-loop-index g l = IsZeroAtIndices (lists l.columns) l.constraint l.row l.index
