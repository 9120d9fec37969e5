-- The table of all bits as it is held: an element for each bit, or packed.
-- Source: docs/LOWERING.md, "The table of bits"; docs/REDUCTIONS.md, "Bits of columns".
use Rattle.std.specs.Prelude.{ℕ, List}
use Rattle.tensor_laws.specs.Tensor.{bits_of_table}
use Rattle.bit_claim.specs.declared.bit_table.Held.{Held}
use Rattle.bit_claim.specs.declared.bit_table.Held.TheVariants.{Elements, Words}

-- the bits in their order
abbrev pub bits_held : Held → List ℕ
bits_held (Elements bits) = bits.items
bits_held (Words words) = bits_of_table 128 words.items
