use Rattle.std.proofs.Common.{◌≡◌, ℕ, ◌+◌, ◌<◌, drop, map, length, get_or, bit_xor}
use Rattle.tower_laws.specs.Tower.{mul}
use Rattle.table_shape.specs.Value.{value}
use Rattle.tower_laws.specs.Lists.{sum_all, product_all}
use Rattle.m3_judge.specs.Judging.{values_in}
use Rattle.m3_judge.proofs.blocks.+blocks.Given as goal

abbrev pub invariant-sum_block-loop-part : goal.invariant-sum_block-loop-part
invariant-sum_block-loop-part g l = record {
  long : length l.sums ≡ 16;
  so_far : (i : ℕ) (d : g.row.F.Denot) → i < 16
      → bit_xor (g.F.Tower.number (get_or l.sums i d)) (sum_all (map (value (values_in l.columns (l.first + i))) (drop l.part-index l.parts))) ≡ sum_all (map (value (values_in l.columns (l.first + i))) l.parts);
}

abbrev pub invariant-product_block-loop-part : goal.invariant-product_block-loop-part
invariant-product_block-loop-part g l = record {
  long : length l.products ≡ 16;
  so_far : (i : ℕ) (d : g.row.F.Denot) → i < 16
      → mul (g.F.Tower.number (get_or l.products i d)) (product_all (map (value (values_in l.columns (l.first + i))) (drop l.part-index l.others))) ≡ product_all (map (value (values_in l.columns (l.first + i))) l.parts);
}
