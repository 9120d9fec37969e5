use Rattle.table_shape.specs.Satisfies.{TablesAreZero}
use Rattle.m3_judge.proofs.constraints.first_nonzero.Given as goal

abbrev pub invariant-loop-number : goal.invariant-loop-number
invariant-loop-number l = TablesAreZero l.store.shape.tables l.store.rows l.store.filling l.number
