use Rattle.std.proofs.Common.{◌≡◌, take}
use Rattle.m3_judge.specs.Sources.{tuple_of}
use Rattle.m3_judge.proofs.source.tuple_of.Given as goal

abbrev pub invariant-loop-k : goal.invariant-loop-k
invariant-loop-k l = l.members.items ≡ take l.k (tuple_of l.store.shape l.store.filling l.source)
