use Rattle.packed_words.proofs.Filling.{Filled}
use Rattle.packed_words.proofs.bit_sums.fill.Given as goal

abbrev pub invariant-loop-k : goal.invariant-loop-k
invariant-loop-k l = Filled l.k l.words l.weights l.buckets
