-- The digests of all nodes of a tree in one list, as a tree holds them.
-- Source: docs/COMMITMENTS.md, "Trees".
use Rattle.std.specs.Prelude.{◌≡◌, ◌<◌, ◌≤◌, ℕ, ◌+◌, ◌-◌, ◌*◌, ◌^◌, List, [], length, get_or}
use Rattle.sha2.specs.Sha256.{sha256}
use Rattle.hash_tree.specs.Tree.{leaf_bytes, node_bytes}

-- the digests of the first leaves, `count` of them, and then for each two digests of the list in turn that of the node over them, for `done` nodes
pub record AreDigests (leaves digests : List (List ℕ)) (count done : ℕ) : Type 0 where
  pub size : length digests ≡ count + done
  pub leaf : (p : ℕ) → p < count → get_or digests p [] ≡ sha256 (leaf_bytes (get_or leaves p []))
  pub node : (j : ℕ) → j < done → get_or digests (count + j) [] ≡ sha256 (node_bytes (get_or digests (2 * j) []) (get_or digests (2 * j + 1) []))

-- all of them, for 2 ^ depth leaves
pub record IsBuilt (leaves digests : List (List ℕ)) (depth : ℕ) : Type 0 where
  pub low : depth ≤ 32
  pub full : length leaves ≡ 2 ^ depth
  pub nodes : AreDigests leaves digests (2 ^ depth) (2 ^ depth - 1)
