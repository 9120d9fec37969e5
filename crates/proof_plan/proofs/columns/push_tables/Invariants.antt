use Rattle.std.proofs.Common.{◌≡◌, ◌++◌, ◌+◌, ◌*◌, ◌≤◌, drop}
use Rattle.proof_plan.specs.Plan.{bit_claims, table_entries}
use Rattle.proof_plan.proofs.columns.push_tables.Given as goal

abbrev pub invariant-loop-t : goal.invariant-loop-t
invariant-loop-t l = record {
  entries : l.entries.items ++ table_entries l.rows l.t (drop l.t l.tables) ≡ l.initial.entries.items ++ table_entries l.rows 0 l.tables;
  claims : l.committed + bit_claims (drop l.t l.tables) ≡ bit_claims l.tables;
  few : l.committed ≤ l.t * 256;
}
