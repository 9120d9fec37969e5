-- What is checked of one query.
-- Source: docs/COMMITMENTS.md, "Queries".
use Rattle.std.specs.Prelude.{◌≡◌, ◌≢◌, ◌<◌, ℕ, ◌+◌, ◌-◌, ◌*◌, ◌/◌, ◌%◌, ◌^◌, List, cond, eqb, take, drop}
use Rattle.std.specs.Int.{w128, from_le_bytes}
use Rattle.hash_tree.specs.Tree.{root_by_path}
use Rattle.word_laws.specs.CodeWord.{hat, fold_pair}
use Rattle.fri_fold.specs.declared.query.QueryFault.{QueryFault}
use Rattle.fri_fold.specs.declared.query.QueryFault.TheVariants.{PathBad, FoldBad}

-- a query's number and index, the round that is due, and the fold of the round before
pub record Check : Type 0 where
  pub query : ℕ
  pub index : ℕ
  pub round : ℕ
  pub fold : ℕ

-- the two values of a leaf
abbrev pub first : List ℕ → ℕ
first leaf = from_le_bytes w128 (take 16 leaf)

abbrev pub second : List ℕ → ℕ
second leaf = from_le_bytes w128 (drop 16 leaf)

-- the value of two that the fold of the round before must be
abbrev pub opened_of : Check → ℕ → ℕ → ℕ
opened_of c f g = cond (eqb (c.index / 2 ^ (c.round - 1) % 2) 1) g f

-- the value of the leaf that the fold of the round before must be
abbrev pub opened : Check → List ℕ → ℕ
opened c leaf = opened_of c (first leaf) (second leaf)

-- the root to which the path leads
abbrev pub root_found : Check → List ℕ → List ℕ → List ℕ
root_found c leaf path = root_by_path (c.index / 2 ^ c.round) leaf path

-- the check after a leaf that passes
abbrev pub after : Check → ℕ → List ℕ → Check
after c r leaf = record {
  query = c.query;
  index = c.index;
  round = c.round + 1;
  fold = fold_pair r (hat c.round ((2 * (c.index / 2 ^ c.round)) * 2 ^ c.round)) (first leaf) (second leaf);
}

-- the leaf is that of the tree, and the fold of the round before is its value
abbrev pub Passes : Check → List ℕ → List ℕ → List ℕ → Type 0
Passes c root leaf path = (root_found c leaf path ≡ root) × (0 < c.round → c.fold ≡ opened c leaf)

-- the fault of a leaf
abbrev pub IsFault : Check → List ℕ → List ℕ → List ℕ → QueryFault → Type 0
IsFault c root leaf path (PathBad query round kept found) = (query ≡ c.query) × (round ≡ c.round) × (kept ≡ root) × (found ≡ root_found c leaf path) × (found ≢ kept)
IsFault c root leaf path (FoldBad query round left right) = (root_found c leaf path ≡ root) × (0 < c.round) × (query ≡ c.query) × (round ≡ c.round) × (left ≡ c.fold) × (right ≡ opened c leaf) × (left ≢ right)

-- the fault at the end
abbrev pub IsLastFault : Check → ℕ → QueryFault → Type 0
IsLastFault c constant (PathBad query round kept found) = ⊥
IsLastFault c constant (FoldBad query round left right) = (query ≡ c.query) × (round ≡ c.round) × (left ≡ c.fold) × (right ≡ constant) × (left ≢ right)
