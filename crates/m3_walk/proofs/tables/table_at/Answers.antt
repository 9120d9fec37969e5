use Rattle.std.proofs.Common.{◌<◌, ◌∙◌, length, slice_get, ap, sym, subst}
use Rattle.list_laws.proofs.Lists.{item_here}
use Rattle.proof_plan.proofs.SmallShape.{table_small}
use Rattle.m3_walk.proofs.tables.table_at.Goals as goal

pub returns-clause-small : goal.returns-clause-small
returns-clause-small c =
    let all = c.tables.ensures.all in
    let at = item_here c.tables.result.now c.args.t c.index-tables-t.result (subst (λ ts. c.args.t < length ts) (sym all) c.requires) c.index-tables-t.is in
    table_small c.args.shape.now c.args.t c.index-tables-t.result c.tables.ensures.fits (ap (λ ts. slice_get ts c.args.t) (sym all) ∙ at)
