use Rattle.std.proofs.Common.{◌≡◌, ◌==◌, ◌≤◌, drop, map, max}
use Rattle.std.specs.List.{filter}
use Rattle.table_shape.specs.Limits.{max_degree}
use Rattle.table_shape.specs.Value.{greatest}
use Rattle.table_shape.specs.declared.shape.ConstraintShape.{ConstraintShape}
use Rattle.proof_plan.proofs.constraints.greatest_degree.Given as goal

abbrev pub invariant-loop-constraint : goal.invariant-loop-constraint
invariant-loop-constraint l = record {
  degree :
      max l.greatest (greatest (map (λ (z : ConstraintShape). z.degree) (filter (λ (z : ConstraintShape). z.log_values == l.log) (drop l.constraint-index l.constraints))))
      ≡ greatest (map (λ (z : ConstraintShape). z.degree) (filter (λ (z : ConstraintShape). z.log_values == l.log) l.constraints));
  low : l.greatest ≤ max_degree;
}
