use Rattle.std.proofs.Common.{arith}
use Rattle.bit_claim.proofs.PlaceSteps.{added, all_added, no_block}
use Rattle.bit_inputs.proofs.committed.bits_taken.Goals as goal

pub overflow_shl-bits : goal.overflow_shl-bits
overflow_shl-bits c = (added c.args.blocks.now c.loop-block.block-index no_block c.loop-block.bits c.loop-block-test.true c.loop-block.invariant c.requires).small

pub overflow_add-bits : goal.overflow_add-bits
overflow_add-bits c =
    let one = added c.args.blocks.now c.loop-block.block-index no_block c.loop-block.bits c.loop-block-test.true c.loop-block.invariant c.requires in
    omega (arith, one.shift, one.room)

pub loop-block-preserved : goal.loop-block-preserved
loop-block-preserved c =
    let one = added c.args.blocks.now c.loop-block.block-index no_block c.loop-block.bits c.loop-block-test.true c.loop-block.invariant c.requires in
    omega (arith, one.shift, one.kept)

pub returns : goal.returns
returns c = all_added c.args.blocks.now c.loop-block.block-index c.loop-block.bits c.loop-block-test.false c.loop-block.invariant
