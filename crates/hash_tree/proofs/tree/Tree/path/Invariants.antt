use Rattle.std.proofs.Common.{◌≡◌}
use Rattle.hash_tree.specs.Tree.{path_up_to}
use Rattle.hash_tree.proofs.tree.Tree.path.Given as goal

abbrev pub invariant-loop-height : goal.invariant-loop-height
invariant-loop-height l = l.path.items ≡ path_up_to l.self l.index l.height
