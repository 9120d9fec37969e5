use Rattle.std.proofs.Common.{◌≡◌, ◌+◌, ◌*◌, ◌%◌, ◌^◌, ◌<◌, ap, ◌∙◌, arith}
use Rattle.std.proofs.lemmas.Nat.{one_shl}
use Rattle.tower_laws.specs.Tower.{mul}
use Rattle.tower_laws.specs.Lists.{product_all}
use Rattle.cube_laws.specs.Sums.{tabulate}
use Rattle.list_laws.specs.CeilLog.{ceil_log}
use Rattle.list_laws.proofs.Powers.{log_of_rows}
use Rattle.table_shape.specs.Lowering.{leaf_at}
use Rattle.column_store.specs.Column.{list_of, lists}
use Rattle.oracle_lowering.proofs.ProductSteps.{rows_more}
use Rattle.oracle_lowering.proofs.side.flush_product.Goals as goal

pub overflow_shl-row-end : goal.overflow_shl-row-end
overflow_shl-row-end c = omega (arith, log_of_rows c.args.rows c.requires, c.ceil_log-row-end.ensures, ap ceil_log c.from.ensures)

pub loop-row-preserved : goal.loop-row-preserved
loop-row-preserved c =
    let leaf = leaf_at c.args.alpha c.args.gamma (list_of (lists c.args.columns.now)) c.args.rows c.args.flush.now in
    rows_more c.loop-row.row leaf c.loop-row.product c.mul-product.result (c.mul-product.ensures ∙ ap (mul c.loop-row.product) c.leaf_at.ensures) c.loop-row.invariant

pub returns : goal.returns
returns c =
    let leaf = leaf_at c.args.alpha c.args.gamma (list_of (lists c.args.columns.now)) c.args.rows c.args.flush.now in
    let log = c.ceil_log-row-end.ensures ∙ ap ceil_log c.from.ensures in
    let low : c.ceil_log-row-end.result < 32 = omega (arith, log_of_rows c.args.rows c.requires, log) in
    let whole : c.loop-row.row ≡ 1 * 2 ^ c.ceil_log-row-end.result % 2 ^ 32 = omega arith in
    c.loop-row.invariant ∙ ap (λ n. product_all (tabulate n leaf)) (whole ∙ one_shl c.ceil_log-row-end.result 32 low ∙ ap (λ n. 2 ^ n) log)
