use Rattle.std.proofs.Common.{◌≡◌, length}
use Rattle.sumcheck.proofs.sum_prover.zeros.Given as goal

abbrev pub invariant-loop : goal.invariant-loop
invariant-loop l = length l.cells.items ≡ l.counter
