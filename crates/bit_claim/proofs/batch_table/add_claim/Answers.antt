use Rattle.std.proofs.Common.{◌≡◌, ◌*◌, ◌%◌, ◌^◌, length, ◌∙◌, ap, subst, arith}
use Rattle.bit_claim.specs.declared.part.Part.{Part}
use Rattle.bit_claim.specs.Bits.{level_in, part_in, size_in}
use Rattle.bit_claim.proofs.PlacedCells.{Cells, cells_of, product_at, weights_scaled}
use Rattle.bit_claim.proofs.TablePlaces.{bits_long, claim_added, first_is, part_fits}
use Rattle.bit_claim.proofs.batch_table.add_claim.Goals as goal

pub overflow_mul-first : goal.overflow_mul-first
overflow_mul-first c =
    let bs = c.args.placement.now in
    let claim = c.args.claim.now in
    let part = c.of-part.result in
    let small = c.of-part.ensures.small in
    let index : part.index ≡ part_in bs claim = ap (λ (p : Part). p.index) c.of-part.ensures.part in
    let level : part.level ≡ level_in bs claim = ap (λ (p : Part). p.level) c.of-part.ensures.part in
    let ws = weights_scaled c.args.factor claim.point c.as_slice.result.now c.in_ok-scaled.scaled.items c.as_slice-weights.result.now c.as_slice.ensures c.in_ok-scaled.ensures (c.as_slice-weights.ensures.value ∙ c.scale.ensures) in
    let long = bits_long bs claim c.args.factor part.level c.as_slice-weights.result.now ws level in
    let first = first_is bs claim part.index (length c.as_slice-weights.result.now) part.level index long (omega (arith, small)) in
    let same : part.index * 2 ^ size_in bs claim ≡ part_in bs claim * 2 ^ size_in bs claim = ap (λ n. n * 2 ^ size_in bs claim) index in
    omega (arith, first, small, same)

pub add_values-requires-clause-within : goal.add_values-requires-clause-within
add_values-requires-clause-within c =
    let bs = c.args.placement.now in
    let claim = c.args.claim.now in
    let part = c.of-part.result in
    let small = c.of-part.ensures.small in
    let index : part.index ≡ part_in bs claim = ap (λ (p : Part). p.index) c.of-part.ensures.part in
    let level : part.level ≡ level_in bs claim = ap (λ (p : Part). p.level) c.of-part.ensures.part in
    let ws = weights_scaled c.args.factor claim.point c.as_slice.result.now c.in_ok-scaled.scaled.items c.as_slice-weights.result.now c.as_slice.ensures c.in_ok-scaled.ensures (c.as_slice-weights.ensures.value ∙ c.scale.ensures) in
    let long = bits_long bs claim c.args.factor part.level c.as_slice-weights.result.now ws level in
    let first = first_is bs claim part.index (length c.as_slice-weights.result.now) part.level index long (omega (arith, small)) in
    let room = (part_fits bs claim c.requires.placed).room in
    omega (arith, first, long, room, c.requires.whole)

pub returns-clause-added : goal.returns-clause-added
returns-clause-added c =
    let bs = c.args.placement.now in
    let claim = c.args.claim.now in
    let part = c.of-part.result in
    let small = c.of-part.ensures.small in
    let index : part.index ≡ part_in bs claim = ap (λ (p : Part). p.index) c.of-part.ensures.part in
    let level : part.level ≡ level_in bs claim = ap (λ (p : Part). p.level) c.of-part.ensures.part in
    let list = c.as_slice-weights.result.now in
    let ws = weights_scaled c.args.factor claim.point c.as_slice.result.now c.in_ok-scaled.scaled.items list c.as_slice.ensures c.in_ok-scaled.ensures (c.as_slice-weights.ensures.value ∙ c.scale.ensures) in
    let long = bits_long bs claim c.args.factor part.level list ws level in
    let begins = part.index * (length list * 2 ^ part.level % 18446744073709551616) in
    let first = first_is bs claim part.index (length list) part.level index long (omega (arith, small)) in
    let cells = cells_of c.args.cells.now.items c.add_values.new.cells.items list begins part.level (2 ^ size_in bs claim) long c.add_values.ensures.long c.add_values.ensures.here c.add_values.ensures.before c.add_values.ensures.after in
    claim_added bs claim c.args.factor c.args.cells.now.items c.add_values.new.cells.items list begins c.requires.placed ws first
    (subst (λ l. Cells c.args.cells.now.items c.add_values.new.cells.items begins (2 ^ size_in bs claim) (product_at l list)) level cells)
