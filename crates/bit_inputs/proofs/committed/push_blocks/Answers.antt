use Rattle.std.proofs.Common.{◌++◌, map}
use Rattle.zerocheck.specs.Given.{table_of}
use Rattle.bit_claim.specs.Bits.{column_bits}
use Rattle.bit_claim.specs.Placement.{seen}
use Rattle.bit_claim.proofs.PlaceSteps.{no_block}
use Rattle.bit_inputs.proofs.Blocks.{all_blocks, block_more}
use Rattle.bit_inputs.proofs.committed.push_blocks.Goals as goal

pub loop-block-preserved : goal.loop-block-preserved
loop-block-preserved c =
    let F = table_of c.args.lists.now in
    block_more F c.args.blocks.now c.loop-block.block-index no_block c.loop-block.table.items c.push_block.new.table.items (c.args.table.now.items ++ column_bits F (map seen c.args.blocks.now)) c.loop-block-test.true c.loop-block.invariant c.in_ok-push_block.ensures

pub returns : goal.returns
returns c =
    let F = table_of c.args.lists.now in
    all_blocks F c.args.blocks.now c.loop-block.block-index c.loop-block.table.items (c.args.table.now.items ++ column_bits F (map seen c.args.blocks.now)) c.loop-block-test.false c.loop-block.invariant
