use Rattle.std.proofs.Common.{◌≡◌, length}
use Rattle.commitment_tests.proofs.folds.table.Given as goal

abbrev pub invariant-values : goal.invariant-values
invariant-values l = length l.values.items ≡ l.i
