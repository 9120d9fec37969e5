use Rattle.std.proofs.Common.{◌≡◌, ◌/◌, ◌^◌}
use Rattle.hash_tree.specs.Tree.{digest_by_path}
use Rattle.hash_tree.proofs.path.root_of.Given as goal

abbrev pub invariant-loop-height : goal.invariant-loop-height
invariant-loop-height l = (l.place ≡ l.index / 2 ^ l.height) × (l.digest ≡ digest_by_path l.index l.leaf l.path l.height)
