use Rattle.std.proofs.Common.{◌≡◌, ◌+◌, ◌^◌, subst, arith}
use Rattle.cube_laws.specs.Sums.{tabulate}
use Rattle.word_laws.specs.CodeWord.{word}
use Rattle.additive_transform.proofs.Butterflies.{block_within, word_more, word_all}
use Rattle.additive_transform.proofs.basis.Basis.encode.Goals as goal

pub append_block-requires-clause-block : goal.append_block-requires-clause-block
append_block-requires-clause-block c =
    let r = c.requires.1.1 in
    let e = c.log_of-log.ensures.only c.requires.0 c.requires.1.0 in
    block_within c.log_of-log.result c.args.log_rate c.args.self.now c.loop-block.block (omega arith) (omega (arith, c.log_len.ensures.len, c.log_len.ensures.low)) (omega arith)

pub loop-block-preserved : goal.loop-block-preserved
loop-block-preserved c = word_more c.log_of-log.result c.loop-block.block c.args.values.now c.loop-block.word.items _ c.log_of-log.ensures.value c.loop-block.invariant c.in_ok-append_block.ensures

pub returns : goal.returns
returns c = λ m h.
    let r = c.requires.1.1 in
    let e = c.log_of-log.ensures.only c.requires.0 c.requires.1.0 in
    let f = c.log_of-log.ensures.only m h in
    subst (λ k. c.loop-block.word.items ≡ tabulate (2 ^ (k + c.args.log_rate)) (word 0 k c.args.values.now)) f
    (word_all c.log_of-log.result c.args.log_rate c.args.self.now c.loop-block.block c.args.values.now c.loop-block.word.items (omega arith) (omega (arith, c.log_len.ensures.len, c.log_len.ensures.low)) (omega arith) c.loop-block.invariant)
