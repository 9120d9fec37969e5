use Rattle.std.proofs.Common.{◌≤◌, ◌-◌, ◌^◌, length, get_or, subst, ap, ◌∙◌, arith}
use Rattle.std.proofs.lemmas.List.{length-map}
use Rattle.tensor_laws.specs.Tensor.{bits_of_table}
use Rattle.table_shape.specs.Fits.{ShapeFits}
use Rattle.table_shape.specs.Oracle.{all_bits}
use Rattle.table_shape.specs.Placement.{bits_taken, places_log}
use Rattle.bit_claim.specs.Placement.{seen}
use Rattle.column_store.specs.Column.{list_of}
use Rattle.oracle_lowering.proofs.Owned.{owned_at, owned_bits, placed_owned}
use Rattle.oracle_lowering.proofs.Spots.{bit_found, bit_past_all, seen_found}
use Rattle.oracle_lowering.proofs.bits.bit_at.Goals as goal

pub columns-requires : goal.columns-requires
columns-requires c =
    let s = c.args.store.now in
    let h = c.in-Some.ensures.lookup in
    let all = placed_owned s.shape s.rows s.filling c.args.placement.now (subst ShapeFits c.shape.ensures c.tables-tables.ensures.fits) c.rows-rows.ensures.fills c.requires in
    let at = rw c.blocks-blocks.ensures.all at (seen_found c.blocks-blocks.result.now c.spot_of-spot.result.block c.in-Some.block.now h.3.0 h.1) in
    (owned_at (length s.shape.tables) s.filling c.args.placement.now c.spot_of-spot.result.block (seen c.in-Some.block.now) all at).table_exists

pub column_bit-requires : goal.column_bit-requires
column_bit-requires c =
    let s = c.args.store.now in
    let h = c.in-Some.ensures.lookup in
    let all = placed_owned s.shape s.rows s.filling c.args.placement.now (subst ShapeFits c.shape.ensures c.tables-tables.ensures.fits) c.rows-rows.ensures.fills c.requires in
    let at = rw c.blocks-blocks.ensures.all at (seen_found c.blocks-blocks.result.now c.spot_of-spot.result.block c.in-Some.block.now h.3.0 h.1) in
    (owned_at (length s.shape.tables) s.filling c.args.placement.now c.spot_of-spot.result.block (seen c.in-Some.block.now) all at).is_a_level

pub returns-in-Some : goal.returns-in-Some
returns-in-Some c =
    let s = c.args.store.now in
    let bs = c.args.placement.now in
    let b = c.in-Some.block.now in
    let spot = c.spot_of-spot.result in
    let h = c.in-Some.ensures.lookup in
    let all = placed_owned s.shape s.rows s.filling bs (subst ShapeFits c.shape.ensures c.tables-tables.ensures.fits) c.rows-rows.ensures.fills c.requires in
    let found = seen_found c.blocks-blocks.result.now spot.block b h.3.0 h.1 in
    let at = rw c.blocks-blocks.ensures.all at found in
    let stands = rw c.blocks-blocks.ensures.all at c.spot_of-spot.ensures.stands in
    c.column_bit.ensures
    ∙ ap (λ values. get_or (bits_of_table (2 ^ b.level) (list_of values b.column)) spot.place 0) c.columns.ensures
    ∙ bit_found s.filling bs (2 ^ places_log bs - bits_taken bs) spot.block spot.place c.args.place (seen b) (owned_bits (length s.shape.tables) s.filling bs all) at stands (c.spot_of-spot.ensures.within (seen b) found)
    ∙ ap (λ ds. get_or (all_bits s.filling ds) c.args.place 0) c.requires

pub returns-in-None : goal.returns-in-None
returns-in-None c =
    let s = c.args.store.now in
    let bs = c.args.placement.now in
    let spot = c.spot_of-spot.result in
    let all = placed_owned s.shape s.rows s.filling bs (subst ShapeFits c.shape.ensures c.tables-tables.ensures.fits) c.rows-rows.ensures.fills c.requires in
    let stands = rw c.blocks-blocks.ensures.all at c.spot_of-spot.ensures.stands in
    let past : length bs ≤ spot.block = omega (arith, c.in-None.ensures.lookup.3, length-map c.blocks-blocks.result.now seen, ap length c.blocks-blocks.ensures.all) in
    bit_past_all s.filling bs (2 ^ places_log bs - bits_taken bs) spot.block spot.place c.args.place (owned_bits (length s.shape.tables) s.filling bs all) past stands
    ∙ ap (λ ds. get_or (all_bits s.filling ds) c.args.place 0) c.requires
