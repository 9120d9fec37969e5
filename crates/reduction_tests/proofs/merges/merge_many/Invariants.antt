use Rattle.std.proofs.Common.{◌≡◌, length}
use Rattle.eval_reduce.specs.Merge.{AllOn, points}
use Rattle.reduction_tests.proofs.merges.merge_many.Given as goal

abbrev pub invariant-claims : goal.invariant-claims
invariant-claims l = (AllOn 0 5 2 l.claims.items × (length l.claims.items ≡ l.k)) × (AllOn 0 5 2 l.told.items × (points l.claims.items ≡ points l.told.items))
