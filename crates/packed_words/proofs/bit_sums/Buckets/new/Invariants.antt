use Rattle.std.proofs.Common.{◌≡◌, length}
use Rattle.packed_words.proofs.bit_sums.Buckets.new.Given as goal

abbrev pub invariant-loop-k : goal.invariant-loop-k
invariant-loop-k l = length l.buckets.items ≡ l.k
