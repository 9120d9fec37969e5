use Rattle.std.proofs.Common.{drop}
use Rattle.cube_mle.proofs.Folds.{Remains}
use Rattle.cube_mle.proofs.extension.mle_at.Given as goal

abbrev pub invariant-loop-x : goal.invariant-loop-x
invariant-loop-x l = Remains l.table.items l.values l.point (drop l.x-index l.point)
