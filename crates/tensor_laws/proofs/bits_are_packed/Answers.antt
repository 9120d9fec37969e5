use Rattle.tensor_laws.proofs.Switching.{unpacked_is, transposed_is, column_is}
use Rattle.tensor_laws.proofs.bits_are_packed.Goals as goal

pub returns : goal.returns
returns c = record { unpacked = unpacked_is; exchanged = transposed_is; column_value = column_is }
