use Rattle.std.proofs.Common.{arith}
use Rattle.m3_walk.proofs.HandOver.{none_left}
use Rattle.m3_walk.proofs.linking.left.Goals as goal

pub returns-else-pending_count-gt0 : goal.returns-else-pending_count-gt0
returns-else-pending_count-gt0 c = none_left c.args.stage c.args.kept.now c.requires.done (let n = c.if-pending_count-gt0.false in let e = c.pending_count.ensures in omega (arith, n, e))
