use Rattle.std.proofs.Common.{◌≡◌, ◌++◌}
use Rattle.table_shape.specs.Counts.{group}
use Rattle.zerocheck.specs.Group.{named}
use Rattle.proof_plan.proofs.constraints.push_group_columns.Given as goal

abbrev pub invariant-loop-column : goal.invariant-loop-column
invariant-loop-column l = l.claimed.items ≡ l.initial.claimed.items ++ named (group l.log l.table) l.column
