use Rattle.std.proofs.Common.{◌≡◌, ◌==◌}
use Rattle.std.specs.List.{filter}
use Rattle.table_shape.specs.declared.shape.ConstraintShape.{ConstraintShape}
use Rattle.zerocheck.specs.Group.{named}
use Rattle.zerocheck.proofs.group.named.Given as goal

abbrev pub invariant-loop-c : goal.invariant-loop-c
invariant-loop-c l = l.columns.items ≡ named (filter (λ (z : ConstraintShape). z.log_values == l.log_values) l.constraints) l.c
