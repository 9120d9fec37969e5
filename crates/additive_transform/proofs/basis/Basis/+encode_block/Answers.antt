use Rattle.std.proofs.Common.{◌-◌, ◌∙◌, ap, arith, rules}
use Rattle.word_laws.specs.CodeWord.{hat}
use Rattle.additive_transform.proofs.Butterflies.{block_fits, halves, mixed_length, encode_next}
use Rattle.additive_transform.proofs.basis.Basis.+encode_block.Goals as goal

pub overflow_shl-block : goal.overflow_shl-block
overflow_shl-block t c =
    let b = block_fits c.args.level c.args.block c.args.self.now c.if-level-eq0.false (omega (arith, c.log_len.ensures.len, c.log_len.ensures.low)) c.requires.block in
    omega (arith, b.below, c.log_len.ensures.len, c.log_len.ensures.low)

pub hat-point-requires-clause-round : goal.hat-point-requires-clause-round
hat-point-requires-clause-round t c = (block_fits c.args.level c.args.block c.args.self.now c.if-level-eq0.false (omega (arith, c.log_len.ensures.len, c.log_len.ensures.low)) c.requires.block).below

pub hat-point-requires-clause-position : goal.hat-point-requires-clause-position
hat-point-requires-clause-position t c =
    let b = block_fits c.args.level c.args.block c.args.self.now c.if-level-eq0.false (omega (arith, c.log_len.ensures.len, c.log_len.ensures.low)) c.requires.block in
    omega (arith, b.position, b.within)

pub butterflies-requires : goal.butterflies-requires
butterflies-requires t c =
    let h = halves c.args.level c.args.values.now _ _ c.if-level-eq0.false c.requires.len c.split_at_mut-low.ensures.front_len c.split_at_mut-low.ensures.back_len in
    omega arith

pub encode_block-requires : goal.encode_block-requires
encode_block-requires t c =
    let h = halves c.args.level c.args.values.now _ _ c.if-level-eq0.false c.requires.len c.split_at_mut-low.ensures.front_len c.split_at_mut-low.ensures.back_len in
    let b = block_fits c.args.level c.args.block c.args.self.now c.if-level-eq0.false (omega (arith, c.log_len.ensures.len, c.log_len.ensures.low)) c.requires.block in
    (search rules, (mixed_length _ _ _ _ _ h.0 h.1 c.butterflies.ensures.low, b.low))

pub encode_block-requires-2 : goal.encode_block-requires-2
encode_block-requires-2 t c =
    let h = halves c.args.level c.args.values.now _ _ c.if-level-eq0.false c.requires.len c.split_at_mut-low.ensures.front_len c.split_at_mut-low.ensures.back_len in
    let b = block_fits c.args.level c.args.block c.args.self.now c.if-level-eq0.false (omega (arith, c.log_len.ensures.len, c.log_len.ensures.low)) c.requires.block in
    (search rules, (mixed_length _ _ _ _ _ h.0 h.1 c.butterflies.ensures.high, b.high))

pub returns : goal.returns
returns t c =
    let b = block_fits c.args.level c.args.block c.args.self.now c.if-level-eq0.false (omega (arith, c.log_len.ensures.len, c.log_len.ensures.low)) c.requires.block in
    encode_next c.args.level c.args.block c.hat-point.result c.args.values.now _ _ _ _ _ _ c.if-level-eq0.false c.requires.len
    (c.hat-point.ensures ∙ ap (hat (c.args.level - 1)) b.position)
    c.split_at_mut-low.ensures.front c.split_at_mut-low.ensures.back c.butterflies.ensures.low c.butterflies.ensures.high c.encode_block.ensures c.encode_block-2.ensures
