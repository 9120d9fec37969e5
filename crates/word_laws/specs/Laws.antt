-- The laws of code words, as statements.
-- Source: docs/LAWS.md, "word_laws: code words".
use Rattle.std.specs.Prelude.{◌≡◌, ◌<◌, ◌≤◌, ◌+◌, ◌*◌, ◌^◌, ℕ, suc, List, [], ◌∷◌, length, bit_xor}
use Rattle.tower_laws.specs.Tower.{Fits, mul}
use Rattle.tower_laws.specs.Lists.{AllFit}
use Rattle.cube_laws.specs.Sums.{tabulate}
use Rattle.cube_laws.specs.Extension.{extension, fold_low, fold_all}
use Rattle.word_laws.specs.CodeWord.{vanish, hat, word, word_by_subsets, fold_pair}
use Rattle.word_laws.specs.Encoding.{encode}
use Rattle.word_laws.specs.WordLists.{word_list, fold_list, fold_lists}

-- the vanishing polynomials: additive, each from the one before, 0 exactly below 2 ^ i where they are divided by their value at 2 ^ i
pub record AreVanishing : Type 0 where
  pub first : (x : ℕ) → vanish 0 x ≡ x
  pub next : (i x : ℕ) → vanish (suc i) x ≡ mul (vanish i x) (bit_xor (vanish i x) (vanish i (2 ^ i)))
  pub sum : (i x y : ℕ) → hat i (bit_xor x y) ≡ bit_xor (hat i x) (hat i y)
  pub below : (i u : ℕ) → u < 2 ^ i → hat i u ≡ 0
  pub one : (i : ℕ) → hat i (2 ^ i) ≡ 1

-- the quick form of a word is the word
abbrev pub QuickWord : Type 0
QuickWord = (j k p : ℕ) (table : List ℕ) → word_by_subsets j k table p ≡ word j k table p

-- the fold of a word is the word of the table with its lowest variable set
abbrev pub FoldOfWord : Type 0
FoldOfWord =
    (j k p r : ℕ) (table : List ℕ) → length table ≡ 2 ^ suc k
    → fold_pair r (hat j ((2 * p) * 2 ^ j)) (word j (suc k) table (2 * p)) (word j (suc k) table (2 * p + 1)) ≡ word (suc j) k (fold_low r table) p

-- after all folds each value is the extension of the table
abbrev pub LastWord : Type 0
LastWord = (j p : ℕ) (rs table : List ℕ) → length table ≡ 2 ^ length rs → word j 0 (fold_all rs table) p ≡ extension table rs

-- the butterflies give the word's values at the positions of a block
abbrev pub EncodeIsWord : Type 0
EncodeIsWord = (k b : ℕ) (table : List ℕ) → length table ≡ 2 ^ k → encode k b table ≡ tabulate (2 ^ k) (λ q. word 0 k table (b * 2 ^ k + q))

-- folds of a word's list, up to the end where each value is the table's extension
pub record AreFolds : Type 0 where
  pub once : (e j k r : ℕ) (table : List ℕ) → length table ≡ 2 ^ suc k → fold_list j (2 ^ (k + e)) r (word_list e j (suc k) table) ≡ word_list e (suc j) k (fold_low r table)
  pub all : (e j : ℕ) (rs table : List ℕ) → length table ≡ 2 ^ length rs → fold_lists e j rs (word_list e j (length rs) table) ≡ tabulate (2 ^ e) (λ p. extension table rs)

-- hats, words and folds of numbers of a level stay in the level
pub record StayInLevel : Type 0 where
  pub hat_fits : (l i x : ℕ) → i < 2 ^ l → Fits l x → Fits l (hat i x)
  pub word_fits : (l j k p : ℕ) (table : List ℕ) → AllFit l table → j + k ≤ 2 ^ l → Fits l (p * 2 ^ j) → Fits l (word j k table p)
  pub fold_fits : (l r x f g : ℕ) → Fits l r → Fits l x → Fits l f → Fits l g → Fits l (fold_pair r x f g)

-- a value worked out by hand: the word of 1 and 2 at position 1 is 1 + 2 · 1, and folded at 4 the pair of 1 and 3 gives 13
pub record AreWorked : Type 0 where
  pub word_is : word_list 1 0 1 (1 ∷ 2 ∷ []) ≡ 1 ∷ 3 ∷ 2 ∷ 0 ∷ []
  pub fold_is : fold_list 0 2 4 (1 ∷ 3 ∷ 2 ∷ 0 ∷ []) ≡ 13 ∷ 13 ∷ []
