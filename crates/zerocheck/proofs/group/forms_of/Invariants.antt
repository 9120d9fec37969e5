use Rattle.std.proofs.Common.{◌≡◌, ◌==◌, ◌++◌, drop, map}
use Rattle.std.specs.List.{filter}
use Rattle.table_shape.specs.declared.shape.ConstraintShape.{ConstraintShape}
use Rattle.zerocheck.specs.Group.{form_on}
use Rattle.zerocheck.proofs.group.forms_of.Given as goal

abbrev pub invariant-loop-constraint : goal.invariant-loop-constraint
invariant-loop-constraint l =
    l.forms.items ++ map (λ (z : ConstraintShape). form_on l.columns z.expr) (filter (λ (z : ConstraintShape). z.log_values == l.log_values) (drop l.constraint-index l.constraints))
    ≡ map (λ (z : ConstraintShape). form_on l.columns z.expr) (filter (λ (z : ConstraintShape). z.log_values == l.log_values) l.constraints)
