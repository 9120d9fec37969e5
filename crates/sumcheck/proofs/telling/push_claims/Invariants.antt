use Rattle.std.proofs.Common.{◌≡◌, ◌≤◌, ◌+◌, ◌-◌, ◌++◌, drop, length, vec_capacity}
use Rattle.sumcheck.specs.Column.{column_claims}
use Rattle.sumcheck.proofs.telling.push_claims.Given as goal

abbrev pub invariant-loop-i : goal.invariant-loop-i
invariant-loop-i l = record {
  within : l.i ≤ length l.values;
  done : l.claims.items ++ column_claims l.table l.point (drop l.i l.columns) (drop l.i l.values) ≡ l.fn.claims.items ++ column_claims l.table l.point l.columns l.values;
  vars : l.points.vars ≡ l.fn.points.vars;
  count : l.points.count ≡ l.fn.points.count - l.i;
  space : length l.claims.items ≡ length l.fn.claims.items + l.i;
  capacity : vec_capacity l.fn.claims ≤ vec_capacity l.claims;
}
