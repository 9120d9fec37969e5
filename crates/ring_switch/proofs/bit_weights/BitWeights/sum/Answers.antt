use Rattle.std.proofs.Common.{◌∙◌, ap, bit_xor, refl, subst, sym}
use Rattle.ring_switch.specs.BitWeights.{byte_sums}
use Rattle.ring_switch.proofs.BitSteps.{Byting, all_bytes, byte_within, more_bytes, no_byte}
use Rattle.ring_switch.proofs.bit_weights.BitWeights.sum.Goals as goal

pub loop-place-init : goal.loop-place-init
loop-place-init c = subst (λ n. Byting c.args.element c.args.self.now 0 n 0) (sym c.number-rest.ensures.value) (no_byte c.args.element c.args.self.now)

pub bounds-sums-place : goal.bounds-sums-place
bounds-sums-place c = byte_within c.self.inside.weights.items _ 4096 c.loop-place.place c.loop-place.rest refl c.loop-place-test.true (c.as_slice-sums.ensures.value ∙ c.self.invariant.made)

pub loop-place-preserved : goal.loop-place-preserved
loop-place-preserved c =
    more_bytes c.args.element c.args.self.now c.as_slice-sums.result.now 4096 c.loop-place.place c.loop-place.rest c.loop-place.total c.index-sums-place.result c.add-total.result refl c.loop-place-test.true
    (c.as_slice-sums.ensures.value ∙ c.self.invariant.made ∙ ap (λ ws. byte_sums ws 4096) c.self.view_is) (c.add-total.ensures ∙ ap (bit_xor c.loop-place.total) c.index-sums-place.is) c.loop-place.invariant

pub returns : goal.returns
returns c = all_bytes c.args.element c.args.self.now c.loop-place.place c.loop-place.rest c.loop-place.total c.loop-place-test.false c.loop-place.invariant
