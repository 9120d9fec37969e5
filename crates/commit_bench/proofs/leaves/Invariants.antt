use Rattle.std.proofs.Common.{◌≡◌, length}
use Rattle.commit_bench.proofs.leaves.Given as goal

abbrev pub invariant-leaves : goal.invariant-leaves
invariant-leaves l = length l.leaves.items ≡ l.i
