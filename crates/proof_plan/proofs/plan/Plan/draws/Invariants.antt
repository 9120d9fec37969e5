use Rattle.std.proofs.Common.{◌≡◌, ◌≤◌, ◌+◌, drop}
use Rattle.proof_plan.specs.Sizes.{draws}
use Rattle.proof_plan.proofs.plan.Plan.draws.Given as goal

abbrev pub invariant-loop-entry : goal.invariant-loop-entry
invariant-loop-entry l = record {
  draws : l.draws + draws (drop l.entry-index l.entry-items) ≡ draws l.entry-items;
  few : l.draws ≤ l.entry-index;
}
