use Rattle.std.proofs.Common.{◌≡◌, ◌++◌, drop}
use Rattle.tensor_laws.specs.Tensor.{bits_of_table}
use Rattle.bit_claim.proofs.bit_table.unpacked.Given as goal

abbrev pub invariant-loop-word : goal.invariant-loop-word
invariant-loop-word l = l.bits.items ++ bits_of_table l.width (drop l.word-index l.words) ≡ bits_of_table l.width l.words
