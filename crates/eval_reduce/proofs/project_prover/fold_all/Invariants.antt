use Rattle.std.proofs.Common.{drop}
use Rattle.cube_mle.proofs.Folds.{Remains}
use Rattle.eval_reduce.proofs.project_prover.fold_all.Given as goal

abbrev pub invariant-loop-x : goal.invariant-loop-x
invariant-loop-x l = Remains l.table.items l.fn.table.items l.point (drop l.x-index l.point)
