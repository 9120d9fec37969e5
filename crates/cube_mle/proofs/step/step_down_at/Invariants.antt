use Rattle.std.proofs.Common.{take}
use Rattle.cube_mle.proofs.Stepping.{Stepped}
use Rattle.cube_mle.proofs.step.step_down_at.Given as goal

abbrev pub invariant-loop-x : goal.invariant-loop-x
invariant-loop-x l = Stepped l.fn.rows (take l.x-index l.point) l.rest l.step
