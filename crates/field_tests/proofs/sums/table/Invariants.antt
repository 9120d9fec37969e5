use Rattle.std.proofs.Common.{◌≡◌, length}
use Rattle.field_tests.proofs.sums.table.Given as goal

abbrev pub invariant-loop-p : goal.invariant-loop-p
invariant-loop-p l = length l.values.items ≡ l.p
