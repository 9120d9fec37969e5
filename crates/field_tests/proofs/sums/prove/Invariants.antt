use Rattle.field_tests.proofs.sums.prove.Given as goal

abbrev pub decreases-loop-prover : goal.decreases-loop-prover
decreases-loop-prover l = l.prover.left
