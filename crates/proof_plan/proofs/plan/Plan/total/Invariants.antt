use Rattle.std.proofs.Common.{◌≡◌, ◌≤◌, ◌+◌, ◌*◌, drop}
use Rattle.proof_plan.specs.Sizes.{total}
use Rattle.proof_plan.proofs.plan.Plan.total.Given as goal

abbrev pub invariant-loop-entry : goal.invariant-loop-entry
invariant-loop-entry l = record {
  sum : l.sum + total (drop l.entry-index l.entry-items) ≡ total l.entry-items;
  few : l.sum ≤ l.entry-index * 274877906944;
}
