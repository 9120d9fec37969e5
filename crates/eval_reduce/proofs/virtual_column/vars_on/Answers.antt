use Rattle.std.proofs.Common.{◌≡◌, ap, ◌∙◌, arith}
use Rattle.list_laws.specs.CeilLog.{ceil_log}
use Rattle.list_laws.proofs.CeilLog.{at_most}
use Rattle.eval_reduce.proofs.virtual_column.vars_on.Goals as goal

pub overflow_add-result : goal.overflow_add-result
overflow_add-result c =
    let few = c.ranges.rows in
    let e : c.ceil_log.result ≡ ceil_log c.args.rows = c.ceil_log.ensures ∙ ap ceil_log c.from.ensures in
    omega (arith, e, at_most c.args.rows 32 (omega arith), c.requires)
