use Rattle.std.proofs.Common.{◌≡◌, ◌^◌, ◌++◌, drop}
use Rattle.tensor_laws.specs.Tensor.{bits_of_table}
use Rattle.reduction_inputs.proofs.given.push_bits.Given as goal

abbrev pub invariant-loop-value : goal.invariant-loop-value
invariant-loop-value l = l.bits.items ++ bits_of_table (2 ^ l.level) (drop l.value-index l.values) ≡ l.initial.bits.items ++ bits_of_table (2 ^ l.level) l.values
