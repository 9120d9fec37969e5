use Rattle.std.proofs.Common.{◌<◌, ◌+◌, length, get_or, ◌∙◌, arith}
use Rattle.table_shape.specs.Value.{value}
use Rattle.m3_judge.specs.Judging.{values_in}
use Rattle.m3_judge.proofs.Products.{products_begin, products_next, products_done, sums_next, sums_done}
use Rattle.m3_judge.proofs.blocks.+blocks.Goals as goal

pub sum_block-loop-part-preserved : goal.sum_block-loop-part-preserved
sum_block-loop-part-preserved g t c = record {
  long = c.add_to.ensures.long ∙ c.loop-part.invariant.long;
  so_far = λ i d h.
      let at = values_in c.args.columns.now (c.args.first + i) in
      let long : i < length c.add_to.new.sums = let e = c.add_to.ensures.long ∙ c.loop-part.invariant.long in omega arith in
      let next = sums_next (value at) c.args.parts.now c.loop-part.part-index c.part-item.result (g.F.Tower.number (get_or c.loop-part.sums i d)) _ c.loop-part-test.true c.part-item.is (c.loop-part.invariant.so_far i d h) in
      rw (c.add_to.ensures.numbers i d long, c.in_ok-block.ensures.1 i d h) next;
}

pub product_block-loop-part-init : goal.product_block-loop-part-init
product_block-loop-part-init g t c = record {
  long = c.in_ok-products.ensures.0;
  so_far = λ i d h.
      let at = values_in c.args.columns.now (c.args.first + i) in
      products_begin (value at) c.args.parts.now c.in-Some.head.now c.in-Some.others.now (g.F.Tower.number (get_or c.in_ok-products.products i d)) c.in-Some.ensures.cases.0 (c.in_ok-products.ensures.1 i d h);
}

pub product_block-loop-part-preserved : goal.product_block-loop-part-preserved
product_block-loop-part-preserved g t c = record {
  long = c.multiply.ensures.long ∙ c.loop-part.invariant.long;
  so_far = λ i d h.
      let at = values_in c.args.columns.now (c.args.first + i) in
      let long : i < length c.multiply.new.products = let e = c.multiply.ensures.long ∙ c.loop-part.invariant.long in omega arith in
      let next = products_next (value at) c.in-Some.others.now c.loop-part.part-index c.part-item.result (g.F.Tower.number (get_or c.loop-part.products i d)) _ c.loop-part-test.true c.part-item.is (c.loop-part.invariant.so_far i d h) in
      rw (c.multiply.ensures.numbers i d long, c.in_ok-block.ensures.1 i d h) next;
}

pub product_block-returns : goal.product_block-returns
product_block-returns g t c = (
  c.loop-part.invariant.long,
  λ i d h.
      let at = values_in c.args.columns.now (c.args.first + i) in
      products_done (value at) c.in-Some.others.now c.loop-part.part-index (g.F.Tower.number (get_or c.loop-part.products i d)) _ c.loop-part-test.false (c.loop-part.invariant.so_far i d h),
)

pub sum_block-returns : goal.sum_block-returns
sum_block-returns g t c = (
  c.loop-part.invariant.long,
  λ i d h.
      let at = values_in c.args.columns.now (c.args.first + i) in
      sums_done (value at) c.args.parts.now c.loop-part.part-index (g.F.Tower.number (get_or c.loop-part.sums i d)) _ c.loop-part-test.false (c.loop-part.invariant.so_far i d h),
)
