-- Trees of SHA-256 digests over leaves of 32 bytes, and paths through them.
-- Source: docs/COMMITMENTS.md, "Trees"; FIPS 180-4 for SHA-256.
use Rattle.std.specs.Prelude.{◌≡◌, ◌<◌, ◌≤◌, ℕ, zero, suc, ◌+◌, ◌-◌, ◌*◌, ◌/◌, ◌%◌, ◌^◌, List, [], ◌∷◌, ◌++◌, cond, ◌==◌, take, drop, get_or, length}
use Rattle.sha2.specs.Sha256.{sha256}

-- a tree has 2 ^ k leaves
abbrev pub IsTreeLength : ℕ → Type 0
IsTreeLength n = (k : ℕ) × ((k ≤ 32) × (n ≡ 2 ^ k))

-- the string whose hash is the digest of a leaf
abbrev pub leaf_bytes : List ℕ → List ℕ
leaf_bytes leaf = 0 ∷ leaf

-- the string whose hash is the digest of a node with these two children
abbrev pub node_bytes : List ℕ → List ℕ → List ℕ
node_bytes left right = 1 ∷ left ++ right

-- the digest of the node at a height and a place
abbrev pub digest_at : List (List ℕ) → ℕ → ℕ → List ℕ
digest_at leaves zero p = sha256 (leaf_bytes (get_or leaves p []))
digest_at leaves (suc h) p = sha256 (node_bytes (digest_at leaves h (2 * p)) (digest_at leaves h (2 * p + 1)))

-- the digest of the one node over all leaves
abbrev pub IsRoot : List (List ℕ) → List ℕ → Type 0
IsRoot leaves digest = (k : ℕ) → length leaves ≡ 2 ^ k → digest ≡ digest_at leaves k 0

-- the place beside p, under the same node
abbrev pub beside : ℕ → ℕ
beside p = 2 * (p / 2) + (1 - p % 2)

-- the digests beside the line of a leaf, from the leaf up to height h
abbrev pub path_up_to : List (List ℕ) → ℕ → ℕ → List ℕ
path_up_to leaves index zero = []
path_up_to leaves index (suc h) = path_up_to leaves index h ++ digest_at leaves h (beside (index / 2 ^ h))

-- the digests beside the whole line of a leaf
abbrev pub IsPath : List (List ℕ) → ℕ → List ℕ → Type 0
IsPath leaves index path = (k : ℕ) → length leaves ≡ 2 ^ k → path ≡ path_up_to leaves index k

-- the string of the node over the place p, where the digest is d and the one beside it s
abbrev pub over : ℕ → List ℕ → List ℕ → List ℕ
over p d s = cond (p % 2 == 1) (node_bytes s d) (node_bytes d s)

-- the digest that a path has at height h
abbrev pub piece : List ℕ → ℕ → List ℕ
piece path h = take 32 (drop (32 * h) path)

-- the digest at height h to which a leaf and its path lead
abbrev pub digest_by_path : ℕ → List ℕ → List ℕ → ℕ → List ℕ
digest_by_path index leaf path zero = sha256 (leaf_bytes leaf)
digest_by_path index leaf path (suc h) = sha256 (over (index / 2 ^ h) (digest_by_path index leaf path h) (piece path h))

-- the digest to which a leaf and its whole path lead
abbrev pub root_by_path : ℕ → List ℕ → List ℕ → List ℕ
root_by_path index leaf path = digest_by_path index leaf path (length path / 32)

-- the path of a tree leads from its leaf to its root
abbrev pub OwnPathsCheck : Type 0
OwnPathsCheck = (leaves : List (List ℕ)) (root path : List ℕ) (k p : ℕ) → length leaves ≡ 2 ^ k → p < length leaves → IsRoot leaves root → IsPath leaves p path → root_by_path p (get_or leaves p []) path ≡ root
