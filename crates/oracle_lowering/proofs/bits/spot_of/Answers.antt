use Rattle.std.proofs.Common.{arith}
use Rattle.bit_claim.proofs.PlaceSteps.{no_block}
use Rattle.oracle_lowering.proofs.Spots.{is_next, is_within, none_past}
use Rattle.oracle_lowering.proofs.bits.spot_of.Goals as goal

pub overflow_shl-size : goal.overflow_shl-size
overflow_shl-size c = (is_next c.args.blocks.now c.loop-k.k no_block c.loop-k-test.true c.requires).small

pub returns-then-rest-size-clause-within : goal.returns-then-rest-size-clause-within
returns-then-rest-size-clause-within c b at = is_within c.args.blocks.now c.loop-k.k no_block c.loop-k.rest b c.loop-k-test.true c.requires c.if-rest-size.true at

pub loop-k-preserved : goal.loop-k-preserved
loop-k-preserved c =
    let one = is_next c.args.blocks.now c.loop-k.k no_block c.loop-k-test.true c.requires in
    omega (arith, one.shift, one.next)

pub returns-clause-within : goal.returns-clause-within
returns-clause-within c b at = absurd (none_past c.args.blocks.now _ b (omega arith) at)
