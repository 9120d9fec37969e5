use Rattle.std.proofs.Common.{◌≡◌, ◌≤◌, ◌+◌, ◌-◌, ◌++◌, drop, length, vec_capacity}
use Rattle.eval_reduce.specs.Linear.{term_claims}
use Rattle.eval_reduce.proofs.combination.Combination.tell.Given as goal

abbrev pub invariant-loop-i : goal.invariant-loop-i
invariant-loop-i l = record {
  within : l.i ≤ length l.values;
  done : l.claims.items ++ term_claims l.claim (drop l.i l.self.terms) (drop l.i l.values) ≡ l.fn.claims.items ++ term_claims l.claim l.self.terms l.values;
  vars : l.points.vars ≡ l.fn.points.vars;
  count : l.points.count ≡ l.fn.points.count - l.i;
  space : length l.claims.items ≡ length l.fn.claims.items + l.i;
  capacity : vec_capacity l.fn.claims ≤ vec_capacity l.claims;
}
