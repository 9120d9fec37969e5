use Rattle.std.proofs.Common.{◌≡◌, drop}
use Rattle.m3_judge.specs.Order.{first_difference}
use Rattle.m3_judge.specs.Sources.{tuples_of}
use Rattle.m3_judge.proofs.sorted.first_difference.Given as goal

abbrev pub invariant-loop-k : goal.invariant-loop-k
invariant-loop-k l =
    first_difference (tuples_of l.store.shape l.store.filling (drop l.k l.pushed)) (tuples_of l.store.shape l.store.filling (drop l.k l.pulled))
    ≡ first_difference (tuples_of l.store.shape l.store.filling l.pushed) (tuples_of l.store.shape l.store.filling l.pulled)
