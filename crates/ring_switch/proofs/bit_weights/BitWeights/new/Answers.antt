use Rattle.std.proofs.Common.{◌∙◌, ap}
use Rattle.ring_switch.specs.BitWeights.{byte_sums}
use Rattle.ring_switch.proofs.bit_weights.BitWeights.new.Goals as goal

pub invariant_of-result : goal.invariant_of-result
invariant_of-result c = record {
  long = c.requires;
  made = c.in_ok-sums.ensures ∙ ap (λ ws. byte_sums ws 4096) c.as_slice.ensures.value;
}
