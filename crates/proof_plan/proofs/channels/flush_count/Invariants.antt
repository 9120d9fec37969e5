use Rattle.std.proofs.Common.{◌≡◌, ◌≤◌, ◌+◌, ◌*◌, drop}
use Rattle.proof_plan.specs.Plan.{flush_count}
use Rattle.proof_plan.proofs.channels.flush_count.Given as goal

abbrev pub invariant-loop-table : goal.invariant-loop-table
invariant-loop-table l = record {
  count : l.count + flush_count (drop l.table-index l.tables) ≡ flush_count l.tables;
  few : l.count ≤ l.table-index * 64;
}
