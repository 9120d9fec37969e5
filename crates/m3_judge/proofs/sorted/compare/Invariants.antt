use Rattle.std.proofs.Common.{◌≡◌, drop}
use Rattle.m3_judge.specs.Order.{tuple_order}
use Rattle.m3_judge.specs.Sources.{tuple_of}
use Rattle.m3_judge.proofs.sorted.compare.Given as goal

abbrev pub invariant-loop-k : goal.invariant-loop-k
invariant-loop-k l =
    let one = tuple_of l.store.shape l.store.filling l.one in
    let other = tuple_of l.store.shape l.store.filling l.other in
    tuple_order (drop l.k one) (drop l.k other) ≡ tuple_order one other
