use Rattle.table_shape.specs.Satisfies.{AreZero}
use Rattle.m3_judge.proofs.constraints.first_in_table.Given as goal

abbrev pub invariant-loop-constraint_number : goal.invariant-loop-constraint_number
invariant-loop-constraint_number l = AreZero l.store.filling l.number l.table l.rows l.constraint_number
