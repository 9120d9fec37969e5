use Rattle.std.proofs.Common.{◌≡◌, ◌≤◌, ◌+◌, drop}
use Rattle.counting_laws.specs.Multiset.{count, same_tuple}
use Rattle.m3_judge.specs.Sources.{tuple_of, tuples_of}
use Rattle.m3_judge.proofs.sorted.count_of.Given as goal

abbrev pub invariant-loop-k : goal.invariant-loop-k
invariant-loop-k l =
    let tuple = tuple_of l.store.shape l.store.filling l.source in
    (l.count ≤ l.k) × (l.count + count same_tuple tuple (tuples_of l.store.shape l.store.filling (drop l.k l.among)) ≡ count same_tuple tuple (tuples_of l.store.shape l.store.filling l.among))
