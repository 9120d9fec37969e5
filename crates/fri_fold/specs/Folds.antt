-- The words of a table after folds, and their leaves.
-- Source: docs/COMMITMENTS.md, "Words and folds"; ePrint 2024/504, the section on the novel polynomial basis.
use Rattle.std.specs.Prelude.{◌≡◌, ◌<◌, ℕ, suc, ◌+◌, ◌-◌, ◌*◌, ◌^◌, List, [], ◌∷◌, ◌++◌, length, replicate}
use Rattle.std.specs.Int.{w128, to_le_bytes}
use Rattle.cube_laws.specs.Sums.{tabulate}
use Rattle.cube_laws.specs.Extension.{extension, fold_all}
use Rattle.word_laws.specs.CodeWord.{word, hat, fold_pair}

-- the word of a table of 2 ^ m values after its lowest variables are set to the draws
abbrev pub word_after : ℕ → List ℕ → List ℕ → List ℕ
word_after m table draws = tabulate (2 ^ (m + 2 - length draws)) (word (length draws) (m - length draws) (fold_all draws table))

-- what is made of each two neighbours of a list, and of the number of the pair, from p on
abbrev pub pairs : {X : Type 0} → (ℕ → ℕ → ℕ → X) → ℕ → List ℕ → List X
pairs make p [] = []
pairs make p (f ∷ []) = []
pairs make p (f ∷ g ∷ word) = make p f g ∷ pairs make (suc p) word

-- the fold at r of a word after j folds
abbrev pub folded : ℕ → ℕ → List ℕ → List ℕ
folded j r word = pairs (λ p f g. fold_pair r (hat j ((2 * p) * 2 ^ j)) f g) 0 word

-- the leaves of a word: the bytes of each two neighbours
abbrev pub leaves : List ℕ → List (List ℕ)
leaves word = pairs (λ p f g. to_le_bytes w128 f ++ to_le_bytes w128 g) 0 word

-- the fold of a word is the next word, and after all folds each of the four values is the extension of the table at the draws
pub record AreFolds : Type 0 where
  pub next : (m r : ℕ) (table draws : List ℕ) → length table ≡ 2 ^ m → length draws < m → folded (length draws) r (word_after m table draws) ≡ word_after m table (draws ++ r ∷ [])
  pub last : (m : ℕ) (table draws : List ℕ) → length table ≡ 2 ^ m → length draws ≡ m → word_after m table draws ≡ replicate 4 (extension table draws)
