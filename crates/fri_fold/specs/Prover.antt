-- What the prover of folds holds, and its openings.
-- Source: docs/COMMITMENTS.md, "Words and folds" and "Queries".
use Rattle.std.specs.Prelude.{◌≡◌, ◌<◌, ◌≤◌, ℕ, zero, suc, ◌+◌, ◌-◌, ◌/◌, ◌^◌, ◌++◌, ◌∷◌, min, List, [], length, take, get_or}
use Rattle.hash_tree.specs.Tree.{digest_at, path_up_to}
use Rattle.fri_fold.specs.Folds.{leaves, word_after}

-- a table of 2 ^ log values, and the draws by which its word was folded
pub record Folding : Type 0 where
  pub log : ℕ
  pub table : List ℕ
  pub draws : List ℕ

-- the same after one fold more
abbrev pub bound : Folding → ℕ → Folding
bound f r = record f { draws = f.draws ++ r ∷ [] }

-- the leaves of the word after j folds
abbrev pub leaves_at : Folding → ℕ → List (List ℕ)
leaves_at f j = leaves (word_after f.log f.table (take j f.draws))

-- the root of the tree of the newest word
abbrev pub newest_root : Folding → List ℕ
newest_root f = digest_at (leaves (word_after f.log f.table f.draws)) (f.log + 1 - length f.draws) 0

-- the leaf and the path of a query in each of the first rounds
abbrev pub openings : Folding → ℕ → ℕ → List ℕ
openings f index zero = []
openings f index (suc j) = openings f index j ++ (get_or (leaves_at f j) (index / 2 ^ j) [] ++ path_up_to (leaves_at f j) (index / 2 ^ j) (f.log + 1 - j))

-- a list that begins with another
abbrev pub Extends : List ℕ → List ℕ → Type 0
Extends old new = (more : List ℕ) × (new ≡ old ++ more)

-- the newest word, and the trees of all words but the last
pub record IsFolding (log : ℕ) (table draws word : List ℕ) (trees : List (List (List ℕ))) : Type 0 where
  pub positive : 1 ≤ log
  pub low : log ≤ 22
  pub full : length table ≡ 2 ^ log
  pub folds : length draws ≤ log
  pub newest : word ≡ word_after log table draws
  pub count : length trees ≡ min (length draws + 1) log
  pub tree : (j : ℕ) → j < length trees → get_or trees j [] ≡ leaves (word_after log table (take j draws))
