use Rattle.std.proofs.Common.{◌≡◌, ◌+◌, drop, map}
use Rattle.table_shape.specs.Placement.{bits_taken}
use Rattle.bit_claim.specs.Placement.{seen}
use Rattle.bit_inputs.proofs.committed.bits_taken.Given as goal

abbrev pub invariant-loop-block : goal.invariant-loop-block
invariant-loop-block l = l.bits + bits_taken (map seen (drop l.block-index l.blocks)) ≡ bits_taken (map seen l.blocks)
