-- That the openings of a prover pass.
-- Source: docs/COMMITMENTS.md, "Queries".
use Rattle.std.specs.Prelude.{◌≡◌, ◌<◌, ℕ, ◌+◌, ◌-◌, ◌/◌, ◌^◌, List, [], length, take, get_or}
use Rattle.cube_laws.specs.Extension.{extension}
use Rattle.hash_tree.specs.Tree.{IsPath, IsRoot}
use Rattle.fri_fold.specs.Folds.{word_after}
use Rattle.fri_fold.specs.Prover.{Folding, leaves_at}
use Rattle.fri_fold.specs.Query.{Check, Passes, after}

-- the word after j folds
abbrev pub word_at : Folding → ℕ → List ℕ
word_at f j = word_after f.log f.table (take j f.draws)

-- the leaf that a prover opens in the round that is due
abbrev pub leaf_at : Folding → Check → List ℕ
leaf_at f c = get_or (leaves_at f c.round) (c.index / 2 ^ c.round) []

-- a check that has come to its round along the openings of a prover with all folds done
pub record IsHonest (f : Folding) (c : Check) : Type 0 where
  pub full : length f.table ≡ 2 ^ f.log
  pub folds : length f.draws ≡ f.log
  pub round : c.round < f.log
  pub index : c.index < 2 ^ (f.log + 1)
  pub small : (p : ℕ) → get_or (word_at f c.round) p 0 < 2 ^ 128
  pub fold : 0 < c.round → c.fold ≡ get_or (word_at f c.round) (c.index / 2 ^ (c.round - 1)) 0

-- the honest opening passes, its fold is the value of the next word, and that of the last round is the constant
pub record OpeningsPass : Type 0 where
  pub passes : (f : Folding) (c : Check) (root path : List ℕ) → IsHonest f c → IsRoot (leaves_at f c.round) root → IsPath (leaves_at f c.round) (c.index / 2 ^ c.round) path → Passes c root (leaf_at f c) path
  pub folds : (f : Folding) (c : Check) → IsHonest f c → (after c (get_or f.draws c.round 0) (leaf_at f c)).fold ≡ get_or (word_at f (c.round + 1)) (c.index / 2 ^ c.round) 0
  pub constant : (f : Folding) (c : Check) → IsHonest f c → c.round + 1 ≡ f.log → (after c (get_or f.draws c.round 0) (leaf_at f c)).fold ≡ extension f.table f.draws
