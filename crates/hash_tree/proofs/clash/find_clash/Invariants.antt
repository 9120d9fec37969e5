use Rattle.std.proofs.Common.{◌≡◌, ◌≤◌, ℕ}
use Rattle.hash_tree.specs.Tree.{digest_by_path}
use Rattle.hash_tree.specs.Clash.{Meets}
use Rattle.hash_tree.proofs.clash.find_clash.Given as goal

abbrev pub invariant-loop-height : goal.invariant-loop-height
invariant-loop-height l = (l.digest ≡ digest_by_path l.index l.leaf l.path l.height) × ((k : ℕ) → k ≤ l.height → ¬ Meets l.tree l.index l.leaf l.path k)
