use Rattle.column_store.proofs.FillSteps.{Until}
use Rattle.column_store.proofs.columns.fill_columns.Given as goal

abbrev pub invariant-loop-c : goal.invariant-loop-c
invariant-loop-c l = Until l.rows l.shapes l.initial.columns.items l.columns.items l.c
