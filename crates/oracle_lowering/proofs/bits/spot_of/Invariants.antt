use Rattle.std.proofs.Common.{◌≡◌, ◌+◌, map, take}
use Rattle.table_shape.specs.Placement.{bits_taken}
use Rattle.bit_claim.specs.Placement.{seen}
use Rattle.oracle_lowering.proofs.bits.spot_of.Given as goal

abbrev pub invariant-loop-k : goal.invariant-loop-k
invariant-loop-k l = bits_taken (take l.k (map seen l.blocks)) + l.rest ≡ l.place
