use Rattle.std.proofs.Common.{◌≡◌, length}
use Rattle.commitment_tests.proofs.folds.eight_folds.Given as goal

abbrev pub invariant-folds : goal.invariant-folds
invariant-folds g l = (l.prover.log ≡ 8) × (length l.prover.draws ≡ l.j)
