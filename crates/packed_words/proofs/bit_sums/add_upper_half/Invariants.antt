use Rattle.packed_words.proofs.Filling.{HalfAdded}
use Rattle.packed_words.proofs.bit_sums.add_upper_half.Given as goal

abbrev pub invariant-loop-b : goal.invariant-loop-b
invariant-loop-b l = HalfAdded l.first l.half l.b l.sum l.initial.buckets l.buckets
