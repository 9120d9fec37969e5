use Rattle.std.proofs.Common.{◌≡◌, ◌++◌, drop}
use Rattle.table_shape.proofs.copying.copied_constraints.Given as goal

abbrev pub invariant-loop-constraint : goal.invariant-loop-constraint
invariant-loop-constraint l = l.copies ++ drop l.constraint-index l.constraints ≡ l.constraints
