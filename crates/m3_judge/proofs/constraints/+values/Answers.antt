use Rattle.std.proofs.Common.{refl}
use Rattle.table_shape.specs.Value.{value}
use Rattle.m3_judge.specs.Judging.{values_in}
use Rattle.m3_judge.proofs.Products.{products_begin, products_next, products_done}
use Rattle.m3_judge.proofs.constraints.+values.Goals as goal

pub product_in-loop-part-init : goal.product_in-loop-part-init
product_in-loop-part-init g t c =
    let at = values_in c.args.columns.now c.args.position in
    products_begin (value at) c.args.parts.now c.in-Some.first.now c.in-Some.others.now (g.F.Tower.number c.in_ok-product.product) c.in-Some.ensures.cases.0 c.in_ok-product.ensures.value

pub product_in-loop-part-preserved : goal.product_in-loop-part-preserved
product_in-loop-part-preserved g t c =
    let at = values_in c.args.columns.now c.args.position in
    let next = products_next (value at) c.in-Some.others.now c.loop-part.part-index c.part-item.result (g.F.Tower.number c.loop-part.product) _ c.loop-part-test.true c.part-item.is c.loop-part.invariant in
    rw (c.mul-product.ensures.product, c.in_ok-value_in.ensures.value) next

pub product_in-returns : goal.product_in-returns
product_in-returns g t c =
    let at = values_in c.args.columns.now c.args.position in
    record {
      value = products_done (value at) c.in-Some.others.now c.loop-part.part-index (g.F.Tower.number c.loop-part.product) _ c.loop-part-test.false c.loop-part.invariant;
      whole = λ _. refl;
    }
