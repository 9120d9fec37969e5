-- Two strings with one hash, where another leaf than a tree's has a path to the tree's root.
-- Source: docs/COMMITMENTS.md, "Trees"; FIPS 180-4 for SHA-256.
use Rattle.std.specs.Prelude.{◌≡◌, ◌≢◌, ◌≤◌, ◌+◌, ◌/◌, ◌^◌, ℕ, List, [], get_or}
use Rattle.sha2.specs.Sha256.{sha256}
use Rattle.hash_tree.specs.Tree.{leaf_bytes, over, beside, piece, digest_at, digest_by_path}
use Rattle.hash_tree.specs.declared.clash.Clash.{Clash}
use Rattle.hash_tree.specs.declared.clash.Clash.TheVariants.{Leaves, Nodes}

-- two different strings with one hash
abbrev pub Clashes : List ℕ → List ℕ → Type 0
Clashes kept found = (kept ≢ found) × (sha256 kept ≡ sha256 found)

abbrev pub IsClash : Clash → Type 0
IsClash (Leaves kept found) = Clashes kept found
IsClash (Nodes kept found) = Clashes kept found

-- the path's digest at height h is the tree's
abbrev pub Meets : List (List ℕ) → ℕ → List ℕ → List ℕ → ℕ → Type 0
Meets leaves index leaf path h = digest_by_path index leaf path h ≡ digest_at leaves h (index / 2 ^ h)

-- two nodes' strings at the least height where the path's digest becomes the tree's
pub record NodesMeet (leaves : List (List ℕ)) (index : ℕ) (leaf path : List ℕ) (h : ℕ) (kept found : List ℕ) : Type 0 where
  pub apart : (k : ℕ) → k ≤ h → ¬ Meets leaves index leaf path k
  pub meet : Meets leaves index leaf path (h + 1)
  pub kept_is : kept ≡ over (index / 2 ^ h) (digest_at leaves h (index / 2 ^ h)) (digest_at leaves h (beside (index / 2 ^ h)))
  pub found_is : found ≡ over (index / 2 ^ h) (digest_by_path index leaf path h) (piece path h)

-- which strings these are: first the tree's, then that of the leaf and its path
abbrev pub IsFirstMeeting : List (List ℕ) → ℕ → List ℕ → List ℕ → Clash → Type 0
IsFirstMeeting leaves index leaf path (Leaves kept found) = (kept ≡ leaf_bytes (get_or leaves index [])) × (found ≡ leaf_bytes leaf)
IsFirstMeeting leaves index leaf path (Nodes kept found) = (h : ℕ) × NodesMeet leaves index leaf path h kept found
