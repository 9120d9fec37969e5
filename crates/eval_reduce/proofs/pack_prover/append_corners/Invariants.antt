use Rattle.std.proofs.Common.{◌≡◌, ◌++◌}
use Rattle.cube_laws.specs.Sums.{tabulate}
use Rattle.cube_laws.specs.Extension.{extension, bits_of}
use Rattle.eval_reduce.proofs.pack_prover.append_corners.Given as goal

abbrev pub invariant-loop-u : goal.invariant-loop-u
invariant-loop-u l = l.out.items ≡ l.fn.out.items ++ tabulate l.u (λ u. extension l.column (bits_of l.log u ++ l.point))
