use Rattle.std.proofs.Common.{◌++◌, ◌+◌, ◌*◌, ◌^◌, ◌≤◌, length, take}
use Rattle.proof_plan.specs.Plan.{backwards, committed_claims}
use Rattle.m3_walk.specs.Course.{columns_stages}
use Rattle.m3_walk.proofs.ColumnCourse.{Made}
use Rattle.m3_walk.proofs.columns.push_columns.Given as goal

abbrev pub invariant-loop-c : goal.invariant-loop-c
invariant-loop-c l = record {
  within : l.c ≤ length l.table.columns;
  few : l.committed + l.c ≤ length l.table.columns;
  room : length l.claimed.items + l.c * 64 ≤ 2 ^ 17;
  done : Made l.shape.tables l.rows l.t (backwards (take l.c l.table.columns)) l.claimed.items l.stages.items (l.initial.stages.items ++ columns_stages l.shape.tables l.rows l.t (backwards l.table.columns) l.initial.claimed.items) l.committed (committed_claims (backwards l.table.columns) l.initial.claimed.items);
}
