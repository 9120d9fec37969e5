use Rattle.std.proofs.Common.{◌≡◌, ◌*◌, ◌^◌, ◌<◌, take, drop}
use Rattle.tensor_laws.specs.Tensor.{bits_of_table, from_bits}
use Rattle.column_store.specs.Column.{list_of, lists}
use Rattle.oracle_lowering.proofs.bits.column_word.Given as goal

abbrev pub invariant-loop-k : goal.invariant-loop-k
invariant-loop-k l = record {
  value : l.number ≡ from_bits (take (l.k * 2 ^ l.block.level) (drop (l.first * 2 ^ l.block.level) (bits_of_table (2 ^ l.block.level) (list_of (lists l.columns) l.block.column))));
  fits : l.number < 2 ^ (l.k * 2 ^ l.block.level);
}
