use Rattle.std.proofs.Common.{◌≡◌, ◌≤◌, ◌-◌, ◌++◌, drop, length, take, vec_capacity}
use Rattle.claim_lists.specs.OnColumn.{but_first_on, first_on}
use Rattle.claim_lists.proofs.taking.take_first.Given as goal

abbrev pub invariant-loop-i : goal.invariant-loop-i
invariant-loop-i l = record {
  within : l.i ≤ length l.claims.items;
  first : first_on l.table l.column (drop l.i l.claims.items) ≡ first_on l.table l.column l.fn.claims.items;
  others : take l.i l.claims.items ++ but_first_on l.table l.column (drop l.i l.claims.items) ≡ but_first_on l.table l.column l.fn.claims.items;
  capacity : vec_capacity l.claims ≡ vec_capacity l.fn.claims;
}

abbrev pub decreases-loop-i : goal.decreases-loop-i
decreases-loop-i l = length l.claims.items - l.i
