use Rattle.std.proofs.Common.{◌≡◌, ◌+◌, ◌≤◌, drop}
use Rattle.proof_plan.specs.Plan.{times_in}
use Rattle.proof_plan.proofs.columns.times_in.Given as goal

abbrev pub invariant-loop-k : goal.invariant-loop-k
invariant-loop-k l = record {
  times : l.times + times_in l.column (drop l.k-index l.claimed) ≡ times_in l.column l.claimed;
  few : l.times ≤ l.k-index;
}
