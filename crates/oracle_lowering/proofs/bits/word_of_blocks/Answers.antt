use Rattle.std.proofs.Common.{◌≡◌, ◌≤◌, ◌<◌, ◌+◌, ◌-◌, ◌*◌, ◌%◌, ◌^◌, length, take, drop, get_or, length-drop, subst, sym, ap, ◌∙◌, arith}
use Rattle.std.proofs.lemmas.List.{length-map, take_all}
use Rattle.tensor_laws.specs.Tensor.{bits_of_table, from_bits}
use Rattle.table_shape.specs.Fits.{ShapeFits}
use Rattle.table_shape.specs.Oracle.{block_bits}
use Rattle.table_shape.specs.Placement.{bits_taken}
use Rattle.bit_claim.specs.Placement.{seen}
use Rattle.bit_claim.proofs.PlaceSteps.{no_block}
use Rattle.column_store.specs.Column.{list_of}
use Rattle.oracle_lowering.proofs.AlignedWords.{no_more_bits}
use Rattle.oracle_lowering.proofs.Owned.{owned_bits, placed_owned}
use Rattle.oracle_lowering.proofs.TakenBlocks.{added_block, taken_block}
use Rattle.oracle_lowering.proofs.bits.word_of_blocks.Goals as goal

pub columns-columns-requires : goal.columns-columns-requires
columns-columns-requires c =
    let s = c.args.store.now in
    let one = taken_block s.shape s.rows s.filling c.args.placement.now c.blocks-blocks.result.now c.args.first c.loop-block.block-index c.loop-block.taken (subst ShapeFits c.shape.ensures c.tables-tables.ensures.fits) c.rows-rows.ensures.fills
    c.requires.own c.blocks-blocks.ensures.all c.requires.small c.loop-block-test.true c.loop-block.invariant.stands c.loop-block.invariant.room c.if-taken-eq128.false in
    one.owned.table_exists

pub overflow_sub-block : goal.overflow_sub-block
overflow_sub-block c =
    let s = c.args.store.now in
    let one = taken_block s.shape s.rows s.filling c.args.placement.now c.blocks-blocks.result.now c.args.first c.loop-block.block-index c.loop-block.taken (subst ShapeFits c.shape.ensures c.tables-tables.ensures.fits) c.rows-rows.ensures.fills
    c.requires.own c.blocks-blocks.ensures.all c.requires.small c.loop-block-test.true c.loop-block.invariant.stands c.loop-block.invariant.room c.if-taken-eq128.false in
    one.owned.level_fits

pub overflow_shl-block : goal.overflow_shl-block
overflow_shl-block c =
    let s = c.args.store.now in
    let one = taken_block s.shape s.rows s.filling c.args.placement.now c.blocks-blocks.result.now c.args.first c.loop-block.block-index c.loop-block.taken (subst ShapeFits c.shape.ensures c.tables-tables.ensures.fits) c.rows-rows.ensures.fills
    c.requires.own c.blocks-blocks.ensures.all c.requires.small c.loop-block-test.true c.loop-block.invariant.stands c.loop-block.invariant.room c.if-taken-eq128.false in
    omega (arith, one.low)

pub column_word-requires-clause-is_a_level : goal.column_word-requires-clause-is_a_level
column_word-requires-clause-is_a_level c =
    let s = c.args.store.now in
    let one = taken_block s.shape s.rows s.filling c.args.placement.now c.blocks-blocks.result.now c.args.first c.loop-block.block-index c.loop-block.taken (subst ShapeFits c.shape.ensures c.tables-tables.ensures.fits) c.rows-rows.ensures.fills
    c.requires.own c.blocks-blocks.ensures.all c.requires.small c.loop-block-test.true c.loop-block.invariant.stands c.loop-block.invariant.room c.if-taken-eq128.false in
    one.owned.is_a_level

pub column_word-requires-clause-room : goal.column_word-requires-clause-room
column_word-requires-clause-room c =
    let s = c.args.store.now in
    let one = taken_block s.shape s.rows s.filling c.args.placement.now c.blocks-blocks.result.now c.args.first c.loop-block.block-index c.loop-block.taken (subst ShapeFits c.shape.ensures c.tables-tables.ensures.fits) c.rows-rows.ensures.fills
    c.requires.own c.blocks-blocks.ensures.all c.requires.small c.loop-block-test.true c.loop-block.invariant.stands c.loop-block.invariant.room c.if-taken-eq128.false in
    omega (arith, one.count, one.follows.room)

pub column_word-requires-clause-fits : goal.column_word-requires-clause-fits
column_word-requires-clause-fits c p =
    let s = c.args.store.now in
    let one = taken_block s.shape s.rows s.filling c.args.placement.now c.blocks-blocks.result.now c.args.first c.loop-block.block-index c.loop-block.taken (subst ShapeFits c.shape.ensures c.tables-tables.ensures.fits) c.rows-rows.ensures.fills
    c.requires.own c.blocks-blocks.ensures.all c.requires.small c.loop-block-test.true c.loop-block.invariant.stands c.loop-block.invariant.room c.if-taken-eq128.false in
    let b = get_or (take (length c.blocks-blocks.result.now - c.args.first) (drop c.args.first c.blocks-blocks.result.now)) c.loop-block.block-index no_block in
    subst (λ values. get_or (list_of values b.column) p 0 < 2 ^ (2 ^ b.level)) (sym c.columns-columns.ensures) (one.owned.fits p)

pub overflow_add-number : goal.overflow_add-number
overflow_add-number c =
    let s = c.args.store.now in
    let one = taken_block s.shape s.rows s.filling c.args.placement.now c.blocks-blocks.result.now c.args.first c.loop-block.block-index c.loop-block.taken (subst ShapeFits c.shape.ensures c.tables-tables.ensures.fits) c.rows-rows.ensures.fills
    c.requires.own c.blocks-blocks.ensures.all c.requires.small c.loop-block-test.true c.loop-block.invariant.stands c.loop-block.invariant.room c.if-taken-eq128.false in
    let b = get_or (take (length c.blocks-blocks.result.now - c.args.first) (drop c.args.first c.blocks-blocks.result.now)) c.loop-block.block-index no_block in
    let v = c.column_word.ensures.value ∙ ap (λ values. from_bits (take (1 * 2 ^ (b.log_bits - b.level) % 2 ^ 64 * 2 ^ b.level) (drop (0 * 2 ^ b.level) (bits_of_table (2 ^ b.level) (list_of values b.column))))) c.columns-columns.ensures in
    let sum = added_block (length s.shape.tables) s.filling c.args.placement.now c.args.first (c.args.first + c.loop-block.block-index) c.loop-block.taken c.loop-block.number c.column_word.result (1 * 2 ^ (b.log_bits - b.level) % 2 ^ 64 * 2 ^ b.level) b one
    c.loop-block.invariant.stands c.loop-block.invariant.value c.loop-block.invariant.fits one.count v c.column_word.ensures.fits in
    omega (arith, sum.shift, sum.small)

pub overflow_shl-taken : goal.overflow_shl-taken
overflow_shl-taken c =
    let s = c.args.store.now in
    let one = taken_block s.shape s.rows s.filling c.args.placement.now c.blocks-blocks.result.now c.args.first c.loop-block.block-index c.loop-block.taken (subst ShapeFits c.shape.ensures c.tables-tables.ensures.fits) c.rows-rows.ensures.fills
    c.requires.own c.blocks-blocks.ensures.all c.requires.small c.loop-block-test.true c.loop-block.invariant.stands c.loop-block.invariant.room c.if-taken-eq128.false in
    omega (arith, one.low)

pub overflow_add-taken : goal.overflow_add-taken
overflow_add-taken c =
    let s = c.args.store.now in
    let one = taken_block s.shape s.rows s.filling c.args.placement.now c.blocks-blocks.result.now c.args.first c.loop-block.block-index c.loop-block.taken (subst ShapeFits c.shape.ensures c.tables-tables.ensures.fits) c.rows-rows.ensures.fills
    c.requires.own c.blocks-blocks.ensures.all c.requires.small c.loop-block-test.true c.loop-block.invariant.stands c.loop-block.invariant.room c.if-taken-eq128.false in
    omega (arith, one.size, one.follows.room)

pub loop-block-preserved : goal.loop-block-preserved
loop-block-preserved c =
    let s = c.args.store.now in
    let one = taken_block s.shape s.rows s.filling c.args.placement.now c.blocks-blocks.result.now c.args.first c.loop-block.block-index c.loop-block.taken (subst ShapeFits c.shape.ensures c.tables-tables.ensures.fits) c.rows-rows.ensures.fills
    c.requires.own c.blocks-blocks.ensures.all c.requires.small c.loop-block-test.true c.loop-block.invariant.stands c.loop-block.invariant.room c.if-taken-eq128.false in
    let b = get_or (take (length c.blocks-blocks.result.now - c.args.first) (drop c.args.first c.blocks-blocks.result.now)) c.loop-block.block-index no_block in
    let v = c.column_word.ensures.value ∙ ap (λ values. from_bits (take (1 * 2 ^ (b.log_bits - b.level) % 2 ^ 64 * 2 ^ b.level) (drop (0 * 2 ^ b.level) (bits_of_table (2 ^ b.level) (list_of values b.column))))) c.columns-columns.ensures in
    let sum = added_block (length s.shape.tables) s.filling c.args.placement.now c.args.first (c.args.first + c.loop-block.block-index) c.loop-block.taken c.loop-block.number c.column_word.result (1 * 2 ^ (b.log_bits - b.level) % 2 ^ 64 * 2 ^ b.level) b one
    c.loop-block.invariant.stands c.loop-block.invariant.value c.loop-block.invariant.fits one.count v c.column_word.ensures.fits in
    let next : c.args.first + (c.loop-block.block-index + 1) ≡ c.args.first + c.loop-block.block-index + 1 = omega arith in
    let stands = ap (λ k. bits_taken (take k c.args.placement.now)) next ∙ one.follows.next in
    let more = ap (λ n. c.loop-block.taken + n) (sym one.size) in
    let start = bits_taken (take c.args.first c.args.placement.now) in
    record {
      stands = omega (arith, stands, one.size, c.loop-block.invariant.stands);
      room = omega (arith, one.size, one.follows.room);
      value = ap (λ n. c.loop-block.number + n) sum.shift ∙ sum.value ∙ ap (λ n. from_bits (take n (drop start (block_bits s.filling c.args.placement.now)))) more;
      fits = subst (λ n. c.loop-block.number + c.column_word.result * 2 ^ c.loop-block.taken % 2 ^ 128 < 2 ^ n) more (omega (arith, sum.shift, sum.fits));
    }

pub returns : goal.returns
returns c =
    let s = c.args.store.now in
    let bs = c.args.placement.now in
    let own = c.blocks-blocks.result.now in
    let owned = placed_owned s.shape s.rows s.filling bs (subst ShapeFits c.shape.ensures c.tables-tables.ensures.fits) c.rows-rows.ensures.fills c.requires.own in
    let rest = ap length (take_all (length own - c.args.first) (drop c.args.first own) (omega (arith, length-drop c.args.first own))) in
    let past : length bs ≤ c.args.first + c.loop-block.block-index = omega (arith, c.loop-block-test.false, rest, length-drop c.args.first own, length-map own seen, ap length c.blocks-blocks.ensures.all) in
    no_more_bits s.filling bs c.args.first (c.args.first + c.loop-block.block-index) c.loop-block.taken c.loop-block.number (owned_bits (length s.shape.tables) s.filling bs owned) past c.loop-block.invariant.stands c.loop-block.invariant.room c.loop-block.invariant.value
