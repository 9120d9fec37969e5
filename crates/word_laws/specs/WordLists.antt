-- Words as lists, and their folds.
-- Source: docs/LAWS.md, "word_laws: code words".
use Rattle.std.specs.Prelude.{ℕ, suc, ◌+◌, ◌*◌, ◌^◌, List, [], ◌∷◌, length, get_or}
use Rattle.cube_laws.specs.Sums.{tabulate}
use Rattle.word_laws.specs.CodeWord.{hat, word, fold_pair}

-- the word of a table of 2 ^ k values after j folds, of 2 ^ e values for each of them
abbrev pub word_list : ℕ → ℕ → ℕ → List ℕ → List ℕ
word_list e j k table = tabulate (2 ^ (k + e)) (word j k table)

-- the fold at r of the pairs of a list of 2 n values, a word after j folds
abbrev pub fold_list : ℕ → ℕ → ℕ → List ℕ → List ℕ
fold_list j n r values = tabulate n (λ p. fold_pair r (hat j ((2 * p) * 2 ^ j)) (get_or values (2 * p) 0) (get_or values (2 * p + 1) 0))

-- the folds at the numbers of a list, one after the other
abbrev pub fold_lists : ℕ → ℕ → List ℕ → List ℕ → List ℕ
fold_lists e j [] values = values
fold_lists e j (r ∷ rs) values = fold_lists e (suc j) rs (fold_list j (2 ^ (length rs + e)) r values)
