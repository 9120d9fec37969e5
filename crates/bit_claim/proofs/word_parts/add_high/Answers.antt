use Rattle.std.proofs.Common.{length, map, ap, ◌∙◌, arith}
use Rattle.std.proofs.lemmas.List.{length-map}
use Rattle.tower_laws.specs.Tower.{mul}
use Rattle.cube_laws.specs.Extension.{weights}
use Rattle.cube_laws.proofs.Folding.{length-weights}
use Rattle.bit_claim.proofs.LowHigh.{above, high_added, high_fits}
use Rattle.bit_claim.proofs.word_parts.add_high.Goals as goal

pub high_weights-requires-clause-small : goal.high_weights-requires-clause-small
high_weights-requires-clause-small c = (high_fits c.args.log c.args.part.level c.args.part.above c.args.part.index (length c.args.cells.now.items) c.args.point.now c.requires.low c.requires.wide c.requires.small c.requires.part c.requires.whole).small

pub add_values-requires-clause-within : goal.add_values-requires-clause-within
add_values-requires-clause-within c =
    let y = above c.args.log c.args.part.level c.args.point.now in
    let fits = high_fits c.args.log c.args.part.level c.args.part.above c.args.part.index (length c.args.cells.now.items) c.args.point.now c.requires.low c.requires.wide c.requires.small c.requires.part c.requires.whole in
    let w = c.as_slice.ensures.value ∙ c.scale.ensures ∙ ap (map (mul c.args.factor)) c.in_ok-first.ensures.weights in
    let long = ap length w ∙ length-map (weights y) (mul c.args.factor) ∙ length-weights y in
    omega (arith, fits.room, c.in_ok-first.ensures.first, long)

pub returns-clause-added : goal.returns-clause-added
returns-clause-added c =
    let fits = high_fits c.args.log c.args.part.level c.args.part.above c.args.part.index (length c.args.cells.now.items) c.args.point.now c.requires.low c.requires.wide c.requires.small c.requires.part c.requires.whole in
    let w = c.as_slice.ensures.value ∙ c.scale.ensures ∙ ap (map (mul c.args.factor)) c.in_ok-first.ensures.weights in
    high_added c.args.log c.args.part.level c.args.part.above c.args.part.index c.args.factor c.in_ok-first.first c.args.point.now c.args.cells.now.items c.add_values.new.cells.items c.as_slice.result.now fits.part c.in_ok-first.ensures.first w
    c.add_values.ensures.long c.add_values.ensures.here c.add_values.ensures.before c.add_values.ensures.after
