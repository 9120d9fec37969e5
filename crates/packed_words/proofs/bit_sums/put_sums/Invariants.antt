use Rattle.packed_words.proofs.Filling.{Put}
use Rattle.packed_words.proofs.bit_sums.put_sums.Given as goal

abbrev pub invariant-loop-bit : goal.invariant-loop-bit
invariant-loop-bit l = Put l.place l.bit l.sums l.initial.all l.all
