use Rattle.std.proofs.Common.{◌≡◌}
use Rattle.cube_laws.specs.Sums.{tabulate}
use Rattle.proof_format.specs.Head.{rows_in}
use Rattle.proof_format.proofs.head.read_rows.Given as goal

abbrev pub invariant-loop-table : goal.invariant-loop-table
invariant-loop-table l = l.rows ≡ tabulate l.table (rows_in l.bytes)
