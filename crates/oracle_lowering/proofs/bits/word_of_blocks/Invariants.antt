use Rattle.std.proofs.Common.{◌≡◌, ◌+◌, ◌^◌, ◌<◌, ◌≤◌, take, drop}
use Rattle.tensor_laws.specs.Tensor.{from_bits}
use Rattle.table_shape.specs.Oracle.{block_bits}
use Rattle.table_shape.specs.Placement.{bits_taken}
use Rattle.oracle_lowering.proofs.bits.word_of_blocks.Given as goal

abbrev pub invariant-loop-block : goal.invariant-loop-block
invariant-loop-block l = record {
  stands : bits_taken (take (l.first + l.block-index) l.placement) ≡ bits_taken (take l.first l.placement) + l.taken;
  room : l.taken ≤ 128;
  value : l.number ≡ from_bits (take l.taken (drop (bits_taken (take l.first l.placement)) (block_bits l.store.filling l.placement)));
  fits : l.number < 2 ^ l.taken;
}
