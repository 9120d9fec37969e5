use Rattle.proof_format.specs.Head.{rows_in}
use Rattle.cube_laws.proofs.Tabulate.{tabulate_pushed}
use Rattle.proof_format.proofs.head.read_rows.Goals as goal

pub loop-table-preserved : goal.loop-table-preserved
loop-table-preserved c = tabulate_pushed c.loop-table.table _ (rows_in c.args.bytes.now) _ _ c.loop-table.invariant c.in_ok-push.ensures.ok c.rows_of.ensures
