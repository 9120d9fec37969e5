use Rattle.std.proofs.Common.{◌≡◌, ◌∙◌, ◌*◌, ◌%◌, ◌^◌, ap, arith}
use Rattle.tower_laws.specs.Tower.{mul}
use Rattle.packed_words.proofs.Places.{none_of, byte_step, index_below, index_small, whole_of}
use Rattle.packed_words.proofs.multiples.Multiples.times.Goals as goal

pub loop-place-init : goal.loop-place-init
loop-place-init c = none_of c.self.inside.factor c.number-number.result

pub overflow_add-place : goal.overflow_add-place
overflow_add-place c = let h = index_small c.number-number.result c.loop-place.place c.loop-place-test.true in omega arith

pub index-requires : goal.index-requires
index-requires c =
    let h = index_below c.self.inside.factor c.number-number.result c.loop-place.place c.self.inside.products.items c.loop-place-test.true c.self.invariant.made in
    let l = c.self.inside.products.ok.0 in omega arith

pub loop-place-preserved : goal.loop-place-preserved
loop-place-preserved c = c.add-sum.ensures ∙ byte_step c.self.inside.factor c.number-number.result c.loop-place.place c.loop-place.sum c.index.result.now c.self.inside.products.items c.loop-place-test.true c.self.invariant.made c.index.ensures c.loop-place.invariant

pub returns : goal.returns
returns c =
    let e : c.loop-place.place ≡ 16 = omega arith in
    let v = c.number-number.ensures.value in
    let f = c.number-number.ensures.fits in
    whole_of c.self.inside.factor c.number-number.result c.loop-place.sum f (c.loop-place.invariant ∙ ap (λ p. mul c.self.inside.factor (c.number-number.result % 2 ^ (8 * p))) e)
    ∙ ap (mul c.self.inside.factor) v ∙ ap (λ r. mul r c.args.value) c.self.view_is
