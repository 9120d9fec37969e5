use Rattle.std.proofs.Common.{◌≡◌, ◌==◌, ◌≤◌, length}
use Rattle.std.specs.List.{filter}
use Rattle.table_shape.specs.declared.shape.ConstraintShape.{ConstraintShape}
use Rattle.zerocheck.specs.Group.{named}
use Rattle.proof_plan.proofs.constraints.named_count.Given as goal

abbrev pub invariant-loop-column : goal.invariant-loop-column
invariant-loop-column l = record {
  count : l.count ≡ length (named (filter (λ (z : ConstraintShape). z.log_values == l.log) l.constraints) l.column);
  few : l.count ≤ l.column;
}
