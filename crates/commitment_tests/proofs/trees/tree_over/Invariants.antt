use Rattle.std.proofs.Common.{◌≡◌, length}
use Rattle.commitment_tests.proofs.trees.tree_over.Given as goal

abbrev pub invariant-leaves : goal.invariant-leaves
invariant-leaves l = length l.leaves.items ≡ l.i
