use Rattle.packed_words.proofs.Filling.{Collected}
use Rattle.packed_words.proofs.bit_sums.sums_of_places.Given as goal

abbrev pub invariant-loop-place : goal.invariant-loop-place
invariant-loop-place l = Collected l.place l.all l.initial.buckets l.buckets
