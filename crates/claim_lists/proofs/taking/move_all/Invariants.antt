use Rattle.std.proofs.Common.{◌≡◌, ◌≤◌, ◌+◌, ◌-◌, ◌++◌, drop, length, take, vec_capacity}
use Rattle.claim_lists.specs.OnColumn.{off_column, on_column}
use Rattle.claim_lists.proofs.taking.move_all.Given as goal

abbrev pub invariant-loop-i : goal.invariant-loop-i
invariant-loop-i l = record {
  within : l.i ≤ length l.claims.items;
  taken : l.taken.items ++ on_column l.table l.column (drop l.i l.claims.items) ≡ on_column l.table l.column l.fn.claims.items;
  others : take l.i l.claims.items ++ off_column l.table l.column (drop l.i l.claims.items) ≡ off_column l.table l.column l.fn.claims.items;
  all : length l.taken.items + length l.claims.items ≡ length l.fn.claims.items;
  capacity : vec_capacity l.claims ≡ vec_capacity l.fn.claims;
  room : vec_capacity l.fn.taken ≤ vec_capacity l.taken;
}

abbrev pub decreases-loop-i : goal.decreases-loop-i
decreases-loop-i l = length l.claims.items - l.i
