use Rattle.std.proofs.Common.{◌≡◌, ◌++◌}
use Rattle.cube_laws.specs.Sums.{tabulate}
use Rattle.bit_inputs.proofs.committed.push_zeros.Given as goal

abbrev pub invariant-loop : goal.invariant-loop
invariant-loop l = l.table.items ≡ l.initial.table.items ++ tabulate l.counter (λ _. 0)
