use Rattle.packed_words.proofs.Exchanges.{Mixed}
use Rattle.packed_words.proofs.transpose.transpose128.Given as goal

abbrev pub invariant-loop-k : goal.invariant-loop-k
invariant-loop-k l = Mixed l.k l.initial.rows l.rows
