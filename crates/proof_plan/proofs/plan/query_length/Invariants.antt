use Rattle.std.proofs.Common.{◌≡◌, ◌≤◌, ◌*◌}
use Rattle.proof_plan.specs.Sizes.{query_length}
use Rattle.proof_plan.proofs.plan.query_length.Given as goal

abbrev pub invariant-loop-round : goal.invariant-loop-round
invariant-loop-round l = record {
  length : l.bytes ≡ query_length l.round;
  few : l.bytes ≤ l.round * 1000;
}
