use Rattle.std.proofs.Common.{bit_xor, sym, ap, ◌∙◌}
use Rattle.tower_laws.specs.Tower.{mul}
use Rattle.poly_laws.specs.Polynomial.{horner}
use Rattle.multiset_laws.specs.Fingerprint.{fingerprint}
use Rattle.table_shape.specs.declared.shape.BoundaryShape.{BoundaryShape}
use Rattle.table_shape.specs.Channels.{is_boundary_of}
use Rattle.channel_products.proofs.ProductSteps.{all_taken, one_times, passed_over, taken}
use Rattle.channel_products.proofs.products.boundaries_product.Goals as goal
use Rattle.channel_products.proofs.products.boundaries_product.Goals.{then-is_boundary_of, else-is_boundary_of}

pub loop-boundary-init : goal.loop-boundary-init
loop-boundary-init c = one_times _

pub loop-boundary-preserved : goal.loop-boundary-preserved
loop-boundary-preserved c =
    let of_boundary = λ (b : BoundaryShape). fingerprint c.args.alpha c.args.gamma b.values in
    let own = is_boundary_of c.args.side c.args.channel in
    elim c.if-is_boundary_of.branch [
      | then-is_boundary_of w ↦
          let value = w.add.ensures ∙ ap (bit_xor c.args.gamma) (w.collapse.ensures ∙ ap (λ vs. horner vs c.args.alpha) w.as_slice.ensures) in
          taken of_boundary own c.args.boundaries.now c.loop-boundary.boundary-index c.boundary-item.result c.loop-boundary.product c.if-is_boundary_of.product _ c.loop-boundary-test.true c.boundary-item.is (sym c.is_boundary_of.ensures ∙ w.if-is_boundary_of.true)
          (w.product-is ∙ w.mul-product.ensures ∙ ap (mul c.loop-boundary.product) value) c.loop-boundary.invariant
      | else-is_boundary_of w ↦
          passed_over of_boundary own c.args.boundaries.now c.loop-boundary.boundary-index c.boundary-item.result c.loop-boundary.product c.if-is_boundary_of.product _ c.loop-boundary-test.true c.boundary-item.is (sym c.is_boundary_of.ensures ∙ w.if-is_boundary_of.false)
          w.product-is c.loop-boundary.invariant
    ]

pub returns : goal.returns
returns c =
    all_taken (λ (b : BoundaryShape). fingerprint c.args.alpha c.args.gamma b.values) (is_boundary_of c.args.side c.args.channel) c.args.boundaries.now c.loop-boundary.boundary-index c.loop-boundary.product _ c.loop-boundary-test.false c.loop-boundary.invariant
