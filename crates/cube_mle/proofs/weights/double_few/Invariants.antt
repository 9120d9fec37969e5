use Rattle.cube_mle.proofs.Doubling.{Doubled}
use Rattle.cube_mle.proofs.weights.double_few.Given as goal

abbrev pub invariant-loop-i : goal.invariant-loop-i
invariant-loop-i l = Doubled l.x l.i l.fn.table.items l.table.items
