use Rattle.std.proofs.Common.{◌≡◌}
use Rattle.ring_switch.specs.BitWeights.{byte_sums}
use Rattle.ring_switch.proofs.bit_weights.byte_sums.Given as goal

abbrev pub invariant-loop-k : goal.invariant-loop-k
invariant-loop-k l = l.sums.items ≡ byte_sums l.fn.weights l.k
