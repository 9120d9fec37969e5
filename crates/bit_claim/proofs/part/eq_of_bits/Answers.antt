use Rattle.std.proofs.Common.{◌%◌, ◌∙◌, refl, sym, arith}
use Rattle.bit_claim.proofs.PartSteps.{factor_even, factor_odd, left_done, left_first, left_more}
use Rattle.bit_claim.proofs.part.eq_of_bits.Goals.{then-rest-eq0, else-rest-eq0}
use Rattle.bit_claim.proofs.part.eq_of_bits.Goals as goal

pub loop-k-init : goal.loop-k-init
loop-k-init c = left_first c.args.count c.args.number c.args.point.now

pub loop-k-preserved : goal.loop-k-preserved
loop-k-preserved c =
    let k = c.loop-k.k in
    let rest = c.loop-k.rest in
    let t = c.loop-k-test.true in
    let e = c.min-k-end.ensures in
    elim c.if-rest-eq0.branch [
      | then-rest-eq0 w ↦
          left_more c.args.count c.args.number c.args.point.now k rest c.loop-k.product w.index-point-k.result c.if-rest-eq0.factor c.mul-product.result (rest % 2) (omega arith) (omega arith) w.index-point-k.is refl
          (factor_even rest w.index-point-k.result w.if-rest-eq0.true ∙ sym (w.factor-is ∙ w.add-factor.ensures)) c.mul-product.ensures c.loop-k.invariant
      | else-rest-eq0 w ↦
          left_more c.args.count c.args.number c.args.point.now k rest c.loop-k.product w.index-point-k-else-rest-eq0.result c.if-rest-eq0.factor c.mul-product.result (rest % 2) (omega arith) (omega arith) w.index-point-k-else-rest-eq0.is refl
          (factor_odd rest w.index-point-k-else-rest-eq0.result (let f = w.if-rest-eq0.false in omega arith) ∙ sym w.factor-is) c.mul-product.ensures c.loop-k.invariant
    ]

pub returns : goal.returns
returns c = let t = c.loop-k-test.false in let e = c.min-k-end.ensures in left_done c.args.count c.args.number c.args.point.now c.loop-k.k c.loop-k.rest c.loop-k.product (omega arith) c.loop-k.invariant
