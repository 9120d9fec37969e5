-- Words as lists, and the folds of a prover.
use Rattle.std.proofs.Common.{◌≡◌, ℕ, suc, ◌+◌, ◌*◌, ◌^◌, List, [], ◌∷◌, length, sym, ◌∙◌, ap, arith}
use Rattle.cube_laws.specs.Sums.{tabulate}
use Rattle.cube_laws.specs.Extension.{extension, fold_low}
use Rattle.cube_laws.proofs.Folding.{length-fold_low}
use Rattle.cube_laws.proofs.Tabulate.{get_or-tabulate}
use Rattle.cube_laws.proofs.Weights.{tabulate-same, extension-fold_low}
use Rattle.word_laws.specs.CodeWord.{hat, word, fold_pair}
use Rattle.word_laws.specs.WordLists.{word_list, fold_list, fold_lists}
use Rattle.word_laws.proofs.WordSums.{fold_of_word, last_word}

pub fold_once : (e j k r : ℕ) (table : List ℕ) → length table ≡ 2 ^ suc k → fold_list j (2 ^ (k + e)) r (word_list e j (suc k) table) ≡ word_list e (suc j) k (fold_low r table)
fold_once e j k r table h =
    let n : 2 ^ (suc k + e) ≡ 2 * 2 ^ (k + e) = next k e in
    tabulate-same (2 ^ (k + e)) _ (word (suc j) k (fold_low r table))
    (λ p l.
    let a = get_or-tabulate (2 ^ (suc k + e)) (2 * p) (word j (suc k) table) (omega arith) in
    let b = get_or-tabulate (2 ^ (suc k + e)) (2 * p + 1) (word j (suc k) table) (omega arith) in
    (λ i. fold_pair r (hat j ((2 * p) * 2 ^ j)) (a i) (b i)) ∙ fold_of_word j k p r table h)
  where
    next : (k e : ℕ) → 2 ^ (suc k + e) ≡ 2 * 2 ^ (k + e)
    next k e = let q : suc k + e ≡ suc (k + e) = omega arith in ap (λ n. 2 ^ n) q ∙ omega arith

pub fold_to_end : (e j : ℕ) (rs table : List ℕ) → length table ≡ 2 ^ length rs → fold_lists e j rs (word_list e j (length rs) table) ≡ tabulate (2 ^ e) (λ p. extension table rs)
fold_to_end e j [] table h =
    let z : 0 + e ≡ e = omega arith in
    ap (λ n. tabulate (2 ^ n) (word j 0 table)) z ∙ tabulate-same (2 ^ e) (word j 0 table) (λ p. extension table []) (λ p l. last_word j p [] table h)
fold_to_end e j (r ∷ rs) table h =
    let q : 2 ^ suc (length rs) ≡ 2 * 2 ^ length rs = omega arith in
    let l = length-fold_low r (2 ^ length rs) table (h ∙ q) in
    ap (fold_lists e (suc j) rs) (fold_once e j (length rs) r table h)
    ∙ fold_to_end e (suc j) rs (fold_low r table) l
    ∙ ap (λ w. tabulate (2 ^ e) (λ p. w)) (sym (extension-fold_low table r rs h))
