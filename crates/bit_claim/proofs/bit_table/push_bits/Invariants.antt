use Rattle.std.proofs.Common.{◌≡◌, ◌++◌}
use Rattle.cube_laws.specs.Extension.{bit}
use Rattle.cube_laws.specs.Sums.{tabulate}
use Rattle.bit_claim.proofs.bit_table.push_bits.Given as goal

abbrev pub invariant-loop-u : goal.invariant-loop-u
invariant-loop-u l = l.bits.items ≡ l.initial.bits.items ++ tabulate l.u (bit l.fn.word)
