use Rattle.std.proofs.Common.{◌≡◌, ◌≤◌, ◌+◌, ◌-◌, ◌++◌, drop, length, vec_capacity}
use Rattle.bit_claim.proofs.room.copy_claims.Given as goal

abbrev pub invariant-loop-i : goal.invariant-loop-i
invariant-loop-i l = record {
  within : l.i ≤ length l.claims;
  done : l.copies.items ++ drop l.i l.claims ≡ l.fn.copies.items ++ l.claims;
  vars : l.points.vars ≡ l.fn.points.vars;
  count : l.points.count ≡ l.fn.points.count - l.i;
  space : length l.copies.items + length l.claims ≡ length l.fn.copies.items + length l.claims + l.i;
  capacity : vec_capacity l.fn.copies ≤ vec_capacity l.copies;
}
