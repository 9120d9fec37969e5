use Rattle.std.proofs.Common.{◌≡◌, ◌+◌, ◌*◌, ◌≤◌, drop}
use Rattle.proof_plan.specs.Plan.{flush_count}
use Rattle.m3_walk.specs.Course.{claim_count}
use Rattle.m3_verifier.proofs.walk.room_for.Given as goal

abbrev pub invariant-loop-table : goal.invariant-loop-table
invariant-loop-table l = record {
  enough : l.room + (flush_count (drop l.table-index l.tables) + claim_count (drop l.table-index l.tables)) ≡ flush_count l.tables + claim_count l.tables;
  few : l.room ≤ l.table-index * 65536;
}
