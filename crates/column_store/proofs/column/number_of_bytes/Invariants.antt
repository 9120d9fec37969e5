use Rattle.std.proofs.Common.{◌≡◌, ◌≤◌, length, drop}
use Rattle.column_store.specs.Digits.{number_of_bytes}
use Rattle.column_store.proofs.column.number_of_bytes.Given as goal

abbrev pub invariant-loop-at : goal.invariant-loop-at
invariant-loop-at l = record {
  within : l.at ≤ length l.bytes;
  spelled : l.number ≡ number_of_bytes (drop l.at l.bytes);
}

abbrev pub decreases-loop-at : goal.decreases-loop-at
decreases-loop-at l = l.at
