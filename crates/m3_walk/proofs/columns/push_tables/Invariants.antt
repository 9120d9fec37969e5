use Rattle.std.proofs.Common.{◌≡◌, ◌++◌, ◌+◌, ◌*◌, ◌≤◌, drop}
use Rattle.proof_plan.specs.Plan.{bit_claims}
use Rattle.m3_walk.specs.Course.{table_stages}
use Rattle.m3_walk.proofs.columns.push_tables.Given as goal

abbrev pub invariant-loop-t : goal.invariant-loop-t
invariant-loop-t l = record {
  stages : l.stages.items ++ table_stages l.shape.tables l.rows l.t (drop l.t l.shape.tables) ≡ l.initial.stages.items ++ table_stages l.shape.tables l.rows 0 l.shape.tables;
  claims : l.committed + bit_claims (drop l.t l.shape.tables) ≡ bit_claims l.shape.tables;
  few : l.committed ≤ l.t * 256;
}
