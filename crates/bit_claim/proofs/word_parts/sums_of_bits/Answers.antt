use Rattle.std.proofs.Common.{◌∙◌}
use Rattle.bit_claim.specs.Words.{word_bits}
use Rattle.bit_claim.proofs.word_parts.sums_of_bits.Goals as goal

pub returns : goal.returns
unfolding word_bits
returns c = c.in_ok-from_slice.ensures.items ∙ c.columns-sums.ensures
