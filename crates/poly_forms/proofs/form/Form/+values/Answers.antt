use Rattle.std.proofs.Common.{length}
use Rattle.tower_laws.proofs.Levels.{field_one}
use Rattle.poly_forms.specs.Form.{form_of}
use Rattle.poly_forms.proofs.FormSteps.{factor_below, product_done, product_next}
use Rattle.poly_forms.proofs.form.Form.+values.Goals as goal

pub eval_product-loop-part-init : goal.eval_product-loop-part-init
eval_product-loop-part-init t c = record { below = c.requires; rest = field_one _ }

pub eval_product-loop-part-preserved : goal.eval_product-loop-part-preserved
eval_product-loop-part-preserved t c =
    let parts = c.args.parts.now in
    let i = c.loop-part.part-index in
    let part = c.part-item.result in
    record {
      below = (factor_below form_of (length c.args.values.now) parts i part c.loop-part-test.true c.part-item.is c.loop-part.invariant.below).1;
      rest = product_next form_of c.args.values.now parts i part c.loop-part.product c.mul-product.result _ c.loop-part-test.true c.part-item.is (rw (c.mul-product.ensures, c.eval.ensures)) c.loop-part.invariant.rest;
    }

pub eval_product-returns : goal.eval_product-returns
eval_product-returns t c = product_done form_of c.args.values.now c.args.parts.now c.loop-part.part-index c.loop-part.product _ c.loop-part-test.false c.loop-part.invariant.rest
