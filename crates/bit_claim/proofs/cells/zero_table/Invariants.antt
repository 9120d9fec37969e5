use Rattle.std.proofs.Common.{◌≡◌}
use Rattle.cube_laws.specs.Sums.{tabulate}
use Rattle.bit_claim.proofs.cells.zero_table.Given as goal

abbrev pub invariant-loop : goal.invariant-loop
invariant-loop l = l.cells.items ≡ tabulate l.counter (λ p. 0)
