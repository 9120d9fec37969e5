use Rattle.std.proofs.Common.{◌≡◌, ◌==◌, drop}
use Rattle.std.specs.List.{filter, list_any}
use Rattle.table_shape.specs.declared.shape.ConstraintShape.{ConstraintShape}
use Rattle.zerocheck.specs.Group.{names}
use Rattle.proof_plan.proofs.constraints.some_names.Given as goal

abbrev pub invariant-loop-constraint : goal.invariant-loop-constraint
invariant-loop-constraint l =
    list_any (λ (z : ConstraintShape). names l.column z.expr) (filter (λ (z : ConstraintShape). z.log_values == l.log) (drop l.constraint-index l.constraints))
    ≡ list_any (λ (z : ConstraintShape). names l.column z.expr) (filter (λ (z : ConstraintShape). z.log_values == l.log) l.constraints)
