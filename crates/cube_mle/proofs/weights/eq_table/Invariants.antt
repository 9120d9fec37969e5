use Rattle.std.proofs.Common.{◌≡◌, take}
use Rattle.cube_laws.specs.Extension.{weights}
use Rattle.cube_mle.proofs.weights.eq_table.Given as goal

abbrev pub invariant-loop-x : goal.invariant-loop-x
invariant-loop-x l = l.table.items ≡ weights (take l.x-index l.point)
