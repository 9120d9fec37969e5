use Rattle.std.proofs.Common.{◌≡◌}
use Rattle.commitment_tests.proofs.folds.passes.Given as goal

abbrev pub invariant-rounds : goal.invariant-rounds
invariant-rounds l = (l.check.round ≡ l.j) × (l.check.index ≡ l.fn.index)
