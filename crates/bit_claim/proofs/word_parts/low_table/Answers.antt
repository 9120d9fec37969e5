use Rattle.std.proofs.Common.{◌^◌, length, map, ap, ◌∙◌, arith}
use Rattle.std.proofs.lemmas.List.{length-map}
use Rattle.std.proofs.lemmas.Nat.{one_shl}
use Rattle.tower_laws.specs.Tower.{mul}
use Rattle.cube_laws.specs.Extension.{weights}
use Rattle.cube_laws.proofs.Folding.{length-weights}
use Rattle.cube_laws.proofs.Weights.{length-tabulate}
use Rattle.batch_laws.specs.Batch.{zeros}
use Rattle.bit_claim.proofs.LowHigh.{low_fits, low_made, within}
use Rattle.bit_claim.proofs.word_parts.low_table.Goals as goal

pub overflow_mul-first : goal.overflow_mul-first
overflow_mul-first c =
    let v = within c.args.log c.args.part.level c.args.point.now in
    let w = c.as_slice-weights.ensures.value ∙ c.scale.ensures ∙ ap (map (mul c.args.factor)) (c.in_ok-scaled.ensures ∙ ap weights c.split.ensures.first) in
    let long = ap length w ∙ length-map (weights v) (mul c.args.factor) ∙ length-weights v in
    let fits = low_fits c.args.log c.args.part.level c.args.part.index c.rest_of.result (length c.as_slice-weights.result.now) c.args.point.now c.requires.low c.requires.few c.rest_of.ensures long in
    omega (arith, fits.room, fits.small)

pub add_values-requires-clause-within : goal.add_values-requires-clause-within
add_values-requires-clause-within c =
    let v = within c.args.log c.args.part.level c.args.point.now in
    let w = c.as_slice-weights.ensures.value ∙ c.scale.ensures ∙ ap (map (mul c.args.factor)) (c.in_ok-scaled.ensures ∙ ap weights c.split.ensures.first) in
    let long = ap length w ∙ length-map (weights v) (mul c.args.factor) ∙ length-weights v in
    let fits = low_fits c.args.log c.args.part.level c.args.part.index c.rest_of.result (length c.as_slice-weights.result.now) c.args.point.now c.requires.low c.requires.few c.rest_of.ensures long in
    let few = c.requires.few in
    let size = one_shl c.args.log 64 (omega (arith, few)) in
    let cells = ap length (c.in_ok-cells.ensures ∙ ap zeros size) ∙ length-tabulate (2 ^ c.args.log) (λ p. 0) in
    omega (arith, fits.room, cells)

pub returns : goal.returns
returns c =
    let v = within c.args.log c.args.part.level c.args.point.now in
    let w = c.as_slice-weights.ensures.value ∙ c.scale.ensures ∙ ap (map (mul c.args.factor)) (c.in_ok-scaled.ensures ∙ ap weights c.split.ensures.first) in
    let long = ap length w ∙ length-map (weights v) (mul c.args.factor) ∙ length-weights v in
    let fits = low_fits c.args.log c.args.part.level c.args.part.index c.rest_of.result (length c.as_slice-weights.result.now) c.args.point.now c.requires.low c.requires.few c.rest_of.ensures long in
    let few = c.requires.few in
    let size = one_shl c.args.log 64 (omega (arith, few)) in
    low_made c.args.log c.args.part.level c.args.part.index c.args.factor _ c.args.point.now c.in_ok-cells.cells.items c.add_values.new.cells.items c.as_slice-weights.result.now c.requires.low fits w (c.in_ok-cells.ensures ∙ ap zeros size)
    c.add_values.ensures.long c.add_values.ensures.here c.add_values.ensures.before c.add_values.ensures.after
