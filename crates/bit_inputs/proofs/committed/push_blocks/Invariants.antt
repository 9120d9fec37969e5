use Rattle.std.proofs.Common.{◌≡◌, ◌++◌, drop, map}
use Rattle.zerocheck.specs.Given.{table_of}
use Rattle.bit_claim.specs.Bits.{column_bits}
use Rattle.bit_claim.specs.Placement.{seen}
use Rattle.bit_inputs.proofs.committed.push_blocks.Given as goal

abbrev pub invariant-loop-block : goal.invariant-loop-block
invariant-loop-block l = l.table.items ++ column_bits (table_of l.lists) (map seen (drop l.block-index l.blocks)) ≡ l.initial.table.items ++ column_bits (table_of l.lists) (map seen l.blocks)
