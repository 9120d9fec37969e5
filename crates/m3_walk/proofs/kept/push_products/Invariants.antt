use Rattle.std.proofs.Common.{◌≡◌, ◌≤◌, ◌+◌, ◌-◌, ◌++◌, drop, length, vec_capacity}
use Rattle.m3_walk.specs.Linking.{products_with}
use Rattle.m3_walk.proofs.kept.push_products.Given as goal

abbrev pub invariant-loop-i : goal.invariant-loop-i
invariant-loop-i l = record {
  few : length l.values.items - l.i ≤ length l.flushes;
  items : l.products.items ++ products_with l.alpha l.gamma l.flushes (drop l.i l.values.items) ≡ l.fn.products.items ++ products_with l.fn.told.alpha l.fn.told.gamma l.fn.told.flushes l.fn.told.values.items;
  room : length l.products.items + (length l.values.items - l.i) ≤ vec_capacity l.products;
  capacity : vec_capacity l.fn.products ≤ vec_capacity l.products;
}
