use Rattle.std.proofs.Common.{◌++◌, ◌+◌, ◌≤◌, length, take}
use Rattle.proof_plan.specs.Plan.{backwards, columns_entries, committed_claims}
use Rattle.proof_plan.proofs.ColumnSteps.{Done}
use Rattle.proof_plan.proofs.columns.push_columns.Given as goal

abbrev pub invariant-loop-c : goal.invariant-loop-c
invariant-loop-c l = record {
  within : l.c ≤ length l.columns;
  few : l.committed + l.c ≤ length l.columns;
  done : Done l.rows (backwards (take l.c l.columns)) l.claimed.items l.entries.items (l.initial.entries.items ++ columns_entries l.rows (backwards l.columns) l.initial.claimed.items) l.committed (committed_claims (backwards l.columns) l.initial.claimed.items);
}
