use Rattle.std.proofs.Common.{◌∙◌, ap, arith}
use Rattle.list_laws.specs.CeilLog.{ceil_log}
use Rattle.list_laws.proofs.Powers.{log_of_rows}
use Rattle.channel_products.proofs.pointed.Pointed.row_vars.Goals as goal

pub returns-clause-few : goal.returns-clause-few
returns-clause-few c =
    let h = log_of_rows c.self.inside.flushed.rows c.self.invariant.rows in
    let e = c.ceil_log.ensures ∙ ap ceil_log c.from.ensures in
    omega arith
