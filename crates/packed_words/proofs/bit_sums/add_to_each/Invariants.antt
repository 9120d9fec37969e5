use Rattle.packed_words.proofs.Filling.{Added}
use Rattle.packed_words.proofs.bit_sums.add_to_each.Given as goal

abbrev pub invariant-loop-place : goal.invariant-loop-place
invariant-loop-place l = Added l.place l.element l.word l.initial.buckets l.buckets
