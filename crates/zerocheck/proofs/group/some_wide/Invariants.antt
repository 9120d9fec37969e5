use Rattle.std.proofs.Common.{◌≡◌, ◌==◌, drop}
use Rattle.std.specs.List.{list_any}
use Rattle.table_shape.specs.declared.shape.ConstraintShape.{ConstraintShape}
use Rattle.zerocheck.proofs.group.some_wide.Given as goal

abbrev pub invariant-loop-constraint : goal.invariant-loop-constraint
invariant-loop-constraint l = list_any (λ (z : ConstraintShape). z.log_values == l.log_values) (drop l.constraint-index l.constraints) ≡ list_any (λ (z : ConstraintShape). z.log_values == l.log_values) l.constraints
