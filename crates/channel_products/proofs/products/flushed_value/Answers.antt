use Rattle.std.proofs.Common.{◌<◌, length, sym, ◌∙◌, arith}
use Rattle.channel_products.proofs.ProductSteps.{one_times, value_left, value_taken, values_taken}
use Rattle.channel_products.proofs.products.flushed_value.Goals as goal
use Rattle.channel_products.proofs.products.flushed_value.Goals.{then-is_flush_of, else-is_flush_of}

pub loop-i-init : goal.loop-i-init
loop-i-init c = one_times _

pub loop-i-preserved : goal.loop-i-preserved
loop-i-preserved c =
    let side = c.args.side in
    let fs = c.args.flushes.now in
    let v = c.args.values.now in
    let within : c.loop-i.i < length v = omega arith in
    elim c.if-is_flush_of.branch [
      | then-is_flush_of w ↦
          value_taken side c.args.channel fs v c.loop-i.i c.index-flushes-i.result w.index-values-i.result c.loop-i.product c.if-is_flush_of.product _ c.loop-i-test.true c.index-flushes-i.is within w.index-values-i.is
          (sym c.is_flush_of.ensures ∙ w.if-is_flush_of.true) (w.product-is ∙ w.mul-product.ensures) c.loop-i.invariant
      | else-is_flush_of w ↦
          value_left side c.args.channel fs v c.loop-i.i c.index-flushes-i.result c.loop-i.product c.if-is_flush_of.product _ c.loop-i-test.true c.index-flushes-i.is within
          (sym c.is_flush_of.ensures ∙ w.if-is_flush_of.false) w.product-is c.loop-i.invariant
    ]

pub returns : goal.returns
returns c = values_taken c.args.side c.args.channel c.args.flushes.now c.args.values.now c.loop-i.i c.loop-i.product _ c.loop-i-test.false c.loop-i.invariant
