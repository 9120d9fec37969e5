use Rattle.std.proofs.Common.{◌≡◌, ◌*◌, ◌%◌, ◌^◌, refl, arith, ap, ◌∙◌}
use Rattle.tower_laws.specs.Tower.{mul}
use Rattle.packed_words.proofs.ByBytes.{none_yet, place_more, all_places}
use Rattle.packed_words.proofs.by_byte.times_byte.Goals as goal

pub loop-place-init : goal.loop-place-init
loop-place-init c = none_yet c.args.factor c.number-number.result

pub loop-place-preserved : goal.loop-place-preserved
loop-place-preserved c =
    place_more c.args.factor c.number-number.result c.loop-place.place c.loop-place.product c.byte_product.result _ c.byte_product.ensures.fits c.loop-place-test.true c.loop-place.invariant refl c.byte_product.ensures.value

pub returns : goal.returns
returns c =
    let e : c.loop-place.place ≡ 16 = omega arith in
    c.element_of.ensures ∙ all_places c.args.factor c.number-number.result c.loop-place.product c.number-number.ensures.fits (c.loop-place.invariant ∙ ap (λ p. mul c.args.factor (c.number-number.result % 2 ^ (8 * p))) e)
    ∙ ap (mul c.args.factor) c.number-number.ensures.value
