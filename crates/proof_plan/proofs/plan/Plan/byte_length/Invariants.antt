use Rattle.std.proofs.Common.{◌≡◌, ◌≤◌, ◌+◌, ◌*◌, drop}
use Rattle.proof_plan.specs.Sizes.{entries_length, head_length}
use Rattle.proof_plan.proofs.plan.Plan.byte_length.Given as goal

abbrev pub invariant-loop-entry : goal.invariant-loop-entry
invariant-loop-entry l = record {
  length : l.bytes + entries_length l.self.packed_log (drop l.entry-index l.entry-items) ≡ head_length l.self.tables + entries_length l.self.packed_log l.entry-items;
  few : l.bytes ≤ 1000 + l.entry-index * 2097152;
}
