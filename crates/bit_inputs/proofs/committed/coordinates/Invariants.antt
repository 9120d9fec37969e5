use Rattle.std.proofs.Common.{◌≡◌, length}
use Rattle.bit_inputs.proofs.committed.coordinates.Given as goal

abbrev pub invariant-loop-k : goal.invariant-loop-k
invariant-loop-k l = length l.point ≡ l.k
