use Rattle.std.proofs.Common.{◌≡◌, ◌==◌, ◌≤◌, ◌+◌, drop, length}
use Rattle.std.specs.List.{filter}
use Rattle.table_shape.specs.declared.shape.ConstraintShape.{ConstraintShape}
use Rattle.proof_plan.proofs.constraints.group_size.Given as goal

abbrev pub invariant-loop-constraint : goal.invariant-loop-constraint
invariant-loop-constraint l = record {
  count : l.size + length (filter (λ (z : ConstraintShape). z.log_values == l.log) (drop l.constraint-index l.constraints)) ≡ length (filter (λ (z : ConstraintShape). z.log_values == l.log) l.constraints);
  few : l.size ≤ l.constraint-index;
}
