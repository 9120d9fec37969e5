use Rattle.sum_bench.proofs.proved.Given as goal

abbrev pub decreases-loop-prover : goal.decreases-loop-prover
decreases-loop-prover l = l.prover.left
