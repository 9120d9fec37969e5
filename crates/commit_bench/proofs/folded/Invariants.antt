use Rattle.std.proofs.Common.{◌≡◌, length}
use Rattle.commit_bench.proofs.folded.Given as goal

abbrev pub invariant-folds : goal.invariant-folds
invariant-folds l = (l.prover.log ≡ l.log) × (length l.prover.draws ≡ l.j)
