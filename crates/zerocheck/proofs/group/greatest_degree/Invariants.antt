use Rattle.std.proofs.Common.{◌≡◌, ◌==◌, drop, map, max}
use Rattle.std.specs.List.{filter}
use Rattle.table_shape.specs.Value.{greatest}
use Rattle.table_shape.specs.declared.shape.ConstraintShape.{ConstraintShape}
use Rattle.zerocheck.proofs.group.greatest_degree.Given as goal

abbrev pub invariant-loop-constraint : goal.invariant-loop-constraint
invariant-loop-constraint l =
    max l.greatest (greatest (map (λ (z : ConstraintShape). z.degree) (filter (λ (z : ConstraintShape). z.log_values == l.log_values) (drop l.constraint-index l.constraints))))
    ≡ greatest (map (λ (z : ConstraintShape). z.degree) (filter (λ (z : ConstraintShape). z.log_values == l.log_values) l.constraints))
