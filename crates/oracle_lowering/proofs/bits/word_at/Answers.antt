use Rattle.std.proofs.Common.{◌≤◌, ◌<◌, ◌-◌, ◌*◌, ◌/◌, ◌^◌, List, length, take, drop, get_or, subst, sym, ap, ◌∙◌, arith}
use Rattle.std.proofs.Math.Nat.{div-le_self}
use Rattle.std.proofs.lemmas.List.{length-map}
use Rattle.tensor_laws.specs.Tensor.{bits_of_table, from_bits}
use Rattle.list_laws.proofs.Powers.{power_bound}
use Rattle.table_shape.specs.Fits.{ShapeFits}
use Rattle.table_shape.specs.Oracle.{all_bits, word_at}
use Rattle.table_shape.specs.Placement.{Block, bits_taken, blocks, places_log}
use Rattle.bit_claim.specs.Placement.{seen}
use Rattle.column_store.specs.Column.{list_of}
use Rattle.oracle_lowering.proofs.AlignedWords.{word_from, word_past, word_within}
use Rattle.oracle_lowering.proofs.Owned.{found_block, owned_bits, placed_owned}
use Rattle.oracle_lowering.proofs.Spots.{block_is, seen_found, words_small}
use Rattle.oracle_lowering.proofs.TakenBlocks.{placed_falls}
use Rattle.oracle_lowering.proofs.bits.word_at.Goals as goal

pub overflow_mul-word : goal.overflow_mul-word
overflow_mul-word c =
    let s = c.args.store.now in
    let few = subst (λ (bs : List Block). bits_taken bs ≤ 2 ^ 24) c.requires.own c.blocks-blocks.ensures.small in
    omega (arith, words_small (blocks s.shape.tables s.rows) c.args.word few c.requires.small)

pub columns-columns-requires : goal.columns-columns-requires
columns-columns-requires c =
    let s = c.args.store.now in
    let h = c.in-Some.ensures.lookup in
    (found_block s.shape s.rows s.filling c.args.placement.now c.blocks-blocks.result.now c.spot_of-spot.result.block c.in-Some.block.now
    (subst ShapeFits c.shape.ensures c.tables-tables.ensures.fits) c.rows-rows.ensures.fills c.requires.own c.blocks-blocks.ensures.all h.3.0 h.1).table_exists

pub overflow_shr-spot : goal.overflow_shr-spot
overflow_shr-spot c =
    let s = c.args.store.now in
    let h = c.in-Some.ensures.lookup in
    let one = found_block s.shape s.rows s.filling c.args.placement.now c.blocks-blocks.result.now c.spot_of-spot.result.block c.in-Some.block.now
    (subst ShapeFits c.shape.ensures c.tables-tables.ensures.fits) c.rows-rows.ensures.fills c.requires.own c.blocks-blocks.ensures.all h.3.0 h.1 in
    omega (arith, one.is_a_level)

pub overflow_shr-block : goal.overflow_shr-block
overflow_shr-block c =
    let s = c.args.store.now in
    let h = c.in-Some.ensures.lookup in
    let one = found_block s.shape s.rows s.filling c.args.placement.now c.blocks-blocks.result.now c.spot_of-spot.result.block c.in-Some.block.now
    (subst ShapeFits c.shape.ensures c.tables-tables.ensures.fits) c.rows-rows.ensures.fills c.requires.own c.blocks-blocks.ensures.all h.3.0 h.1 in
    omega (arith, one.is_a_level)

pub column_word-requires-clause-is_a_level : goal.column_word-requires-clause-is_a_level
column_word-requires-clause-is_a_level c =
    let s = c.args.store.now in
    let h = c.in-Some.ensures.lookup in
    (found_block s.shape s.rows s.filling c.args.placement.now c.blocks-blocks.result.now c.spot_of-spot.result.block c.in-Some.block.now
    (subst ShapeFits c.shape.ensures c.tables-tables.ensures.fits) c.rows-rows.ensures.fills c.requires.own c.blocks-blocks.ensures.all h.3.0 h.1).is_a_level

pub column_word-requires-clause-small : goal.column_word-requires-clause-small
column_word-requires-clause-small c =
    let s = c.args.store.now in
    let h = c.in-Some.ensures.lookup in
    let b = c.in-Some.block.now in
    let one = found_block s.shape s.rows s.filling c.args.placement.now c.blocks-blocks.result.now c.spot_of-spot.result.block b
    (subst ShapeFits c.shape.ensures c.tables-tables.ensures.fits) c.rows-rows.ensures.fills c.requires.own c.blocks-blocks.ensures.all h.3.0 h.1 in
    let within = c.spot_of-spot.ensures.within (seen b) (seen_found c.blocks-blocks.result.now c.spot_of-spot.result.block b h.3.0 h.1) in
    omega (arith, div-le_self c.spot_of-spot.result.place (2 ^ b.level), within, power_bound b.log_bits 34 one.small)

pub column_word-requires-clause-fits : goal.column_word-requires-clause-fits
column_word-requires-clause-fits c p =
    let s = c.args.store.now in
    let h = c.in-Some.ensures.lookup in
    let b = c.in-Some.block.now in
    let one = found_block s.shape s.rows s.filling c.args.placement.now c.blocks-blocks.result.now c.spot_of-spot.result.block b
    (subst ShapeFits c.shape.ensures c.tables-tables.ensures.fits) c.rows-rows.ensures.fills c.requires.own c.blocks-blocks.ensures.all h.3.0 h.1 in
    subst (λ values. get_or (list_of values b.column) p 0 < 2 ^ (2 ^ b.level)) (sym c.columns-columns.ensures) (one.fits p)

pub word_of_blocks-requires-clause-small : goal.word_of_blocks-requires-clause-small
word_of_blocks-requires-clause-small c b at =
    let h = c.in-Some.ensures.lookup in
    let found = rw c.blocks-blocks.ensures.all at (seen_found c.blocks-blocks.result.now c.spot_of-spot.result.block c.in-Some.block.now h.3.0 h.1) in
    let same = block_is (seen c.in-Some.block.now) b (sym found ∙ at) in
    omega (arith, same, c.if-block-ge7.false)

pub returns-in-Some : goal.returns-in-Some
returns-in-Some c =
    let s = c.args.store.now in
    let bs = c.args.placement.now in
    let b = c.in-Some.block.now in
    let spot = c.spot_of-spot.result in
    let h = c.in-Some.ensures.lookup in
    let fit = subst ShapeFits c.shape.ensures c.tables-tables.ensures.fits in
    let owned = placed_owned s.shape s.rows s.filling bs fit c.rows-rows.ensures.fills c.requires.own in
    let one = found_block s.shape s.rows s.filling bs c.blocks-blocks.result.now spot.block b fit c.rows-rows.ensures.fills c.requires.own c.blocks-blocks.ensures.all h.3.0 h.1 in
    let found = seen_found c.blocks-blocks.result.now spot.block b h.3.0 h.1 in
    let word = word_within s.filling bs (2 ^ places_log bs - bits_taken bs) c.args.word spot.block spot.place (seen b) (owned_bits (length s.shape.tables) s.filling bs owned) (placed_falls s.shape.tables s.rows bs c.requires.own)
    (rw c.blocks-blocks.ensures.all at found) (rw c.blocks-blocks.ensures.all at c.spot_of-spot.ensures.stands) (c.spot_of-spot.ensures.within (seen b) found) (omega arith) one.small one.is_a_level in
    c.column_word.ensures.value
    ∙ ap (λ values. from_bits (take (128 / 2 ^ b.level * 2 ^ b.level) (drop (spot.place / 2 ^ b.level * 2 ^ b.level) (bits_of_table (2 ^ b.level) (list_of values b.column))))) c.columns-columns.ensures
    ∙ word.word
    ∙ ap (λ ds. word_at (all_bits s.filling ds) c.args.word) c.requires.own

pub returns-in-Some-2 : goal.returns-in-Some-2
returns-in-Some-2 c =
    let s = c.args.store.now in
    let bs = c.args.placement.now in
    let b = c.in-Some.block.now in
    let spot = c.spot_of-spot.result in
    let h = c.in-Some.ensures.lookup in
    let found = seen_found c.blocks-blocks.result.now spot.block b h.3.0 h.1 in
    c.word_of_blocks.ensures
    ∙ word_from s.filling bs (2 ^ places_log bs - bits_taken bs) c.args.word spot.block spot.place (seen b) (placed_falls s.shape.tables s.rows bs c.requires.own)
    (rw c.blocks-blocks.ensures.all at found) (rw c.blocks-blocks.ensures.all at c.spot_of-spot.ensures.stands) (c.spot_of-spot.ensures.within (seen b) found) (omega arith)
    ∙ ap (λ ds. word_at (all_bits s.filling ds) c.args.word) c.requires.own

pub returns-in-None : goal.returns-in-None
returns-in-None c =
    let s = c.args.store.now in
    let bs = c.args.placement.now in
    let spot = c.spot_of-spot.result in
    let owned = placed_owned s.shape s.rows s.filling bs (subst ShapeFits c.shape.ensures c.tables-tables.ensures.fits) c.rows-rows.ensures.fills c.requires.own in
    let past : length bs ≤ spot.block = omega (arith, c.in-None.ensures.lookup.3, length-map c.blocks-blocks.result.now seen, ap length c.blocks-blocks.ensures.all) in
    word_past s.filling bs (2 ^ places_log bs - bits_taken bs) c.args.word spot.block spot.place (owned_bits (length s.shape.tables) s.filling bs owned) past (rw c.blocks-blocks.ensures.all at c.spot_of-spot.ensures.stands)
    ∙ ap (λ ds. word_at (all_bits s.filling ds) c.args.word) c.requires.own
