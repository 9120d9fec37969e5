use Rattle.column_store.proofs.Summing.{SumSoFar, term_value}
use Rattle.column_store.proofs.sums.fill_sum.Given as goal

abbrev pub invariant-loop-term : goal.invariant-loop-term
invariant-loop-term l = SumSoFar (term_value l.columns) l.terms l.term-index l.fn.column l.column
