use Rattle.std.proofs.Common.{sym, ap, ◌∙◌}
use Rattle.std.specs.List.{filter}
use Rattle.tower_laws.specs.Tower.{mul}
use Rattle.counting_laws.specs.Multiset.{product_by}
use Rattle.table_shape.specs.Channels.{is_flush_of}
use Rattle.table_shape.specs.Lowering.{flush_product}
use Rattle.column_store.specs.Column.{list_of, lists}
use Rattle.oracle_lowering.proofs.ProductSteps.{all_taken, one_times, passed_over, taken}
use Rattle.oracle_lowering.proofs.side.flushes_product.Goals as goal
use Rattle.oracle_lowering.proofs.side.flushes_product.Goals.{then-is_flush_of, else-is_flush_of}

pub loop-flush-init : goal.loop-flush-init
loop-flush-init c = one_times _

pub loop-flush-preserved : goal.loop-flush-preserved
loop-flush-preserved c =
    let of_flush = flush_product c.args.alpha c.args.gamma (list_of (lists c.args.columns.now)) c.args.rows in
    let own = is_flush_of c.args.side c.args.channel in
    elim c.if-is_flush_of.branch [
      | then-is_flush_of w ↦
          taken of_flush own c.args.flushes.now c.loop-flush.flush-index c.flush-item.result c.loop-flush.product c.if-is_flush_of.product _ c.loop-flush-test.true c.flush-item.is (sym c.is_flush_of.ensures ∙ w.if-is_flush_of.true)
          (w.product-is ∙ w.mul-product.ensures ∙ ap (mul c.loop-flush.product) w.flush_product.ensures) c.loop-flush.invariant
      | else-is_flush_of w ↦
          passed_over of_flush own c.args.flushes.now c.loop-flush.flush-index c.flush-item.result c.loop-flush.product c.if-is_flush_of.product _ c.loop-flush-test.true c.flush-item.is (sym c.is_flush_of.ensures ∙ w.if-is_flush_of.false)
          w.product-is c.loop-flush.invariant
    ]

pub returns : goal.returns
returns c =
    all_taken (flush_product c.args.alpha c.args.gamma (list_of (lists c.args.columns.now)) c.args.rows) (is_flush_of c.args.side c.args.channel) c.args.flushes.now c.loop-flush.flush-index c.loop-flush.product _ c.loop-flush-test.false c.loop-flush.invariant
