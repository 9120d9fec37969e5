use Rattle.packed_words.proofs.Filling.{PlaceSummed}
use Rattle.packed_words.proofs.bit_sums.sums_of_place.Given as goal

abbrev pub invariant-loop-step : goal.invariant-loop-step
invariant-loop-step l = PlaceSummed l.place l.step l.sums l.initial.buckets l.buckets
