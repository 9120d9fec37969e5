use Rattle.std.proofs.Common.{arith}
use Rattle.cube_mle.proofs.Points.{eq_start}
use Rattle.cube_mle.proofs.eq.eq_at.Goals as goal

pub loop-k-init : goal.loop-k-init
loop-k-init c = let h = c.min-k.ensures in ((omega arith, omega arith), eq_start c.min-k.result c.args.x.now c.args.y.now (omega arith))
