use Rattle.std.proofs.Common.{◌≡◌, ◌++◌}
use Rattle.cube_laws.specs.Extension.{bit}
use Rattle.cube_laws.specs.Sums.{tabulate}
use Rattle.reduction_inputs.proofs.given.push_value.Given as goal

abbrev pub invariant-loop-u : goal.invariant-loop-u
invariant-loop-u l = l.bits.items ≡ l.initial.bits.items ++ tabulate l.u (bit l.fn.value)
