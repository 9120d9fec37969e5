use Rattle.bit_claim.proofs.PackedSteps.{bind_more, bind_start}
use Rattle.bit_claim.proofs.packed_sum.bind_all.Goals as goal

pub loop-r-init : goal.loop-r-init
loop-r-init c = bind_start c.args.sum.now

pub loop-r-preserved : goal.loop-r-preserved
loop-r-preserved c = bind_more c.args.sum.now c.loop-r.sum c.bind.new.self c.args.draws.now c.loop-r.r-index c.r-item.result c.loop-r-test.true c.r-item.is c.bind.ensures c.loop-r.invariant
