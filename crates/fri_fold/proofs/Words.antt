-- What the fold of a whole word is.
use Rattle.std.proofs.Common.{◌≡◌, ℕ, zero, suc, ◌+◌, ◌-◌, ◌*◌, ◌^◌, ◌<◌, List, [], ◌∷◌, ◌++◌, length, replicate, refl, sym, ◌∙◌, ap, arith}
use Rattle.std.proofs.lemmas.List.{length_push}
use Rattle.cube_laws.specs.Sums.{tabulate}
use Rattle.cube_laws.specs.Extension.{extension, fold_low, fold_all}
use Rattle.cube_laws.proofs.Weights.{tabulate-same}
use Rattle.cube_laws.proofs.Folding.{length-fold_low}
use Rattle.word_laws.specs.CodeWord.{word, hat, fold_pair}
use Rattle.word_laws.proofs.WordSums.{fold_of_word, last_word}
use Rattle.fri_fold.specs.Folds.{pairs, folded, word_after}

pairs_tabulate : (make : ℕ → ℕ → ℕ → ℕ) (p n : ℕ) (f : ℕ → ℕ) → pairs make p (tabulate (2 * n) f) ≡ tabulate n (λ q. make (p + q) (f (2 * q)) (f (2 * q + 1)))
pairs_tabulate make p zero f = refl
pairs_tabulate make p (suc n) f =
    let a : 2 * suc n ≡ suc (suc (2 * n)) = omega arith in
    let z : p ≡ p + 0 = omega arith in
    ap (λ k. pairs make p (tabulate k f)) a ∙ ap (λ k. make p (f 0) (f 1) ∷ k) (pairs_tabulate make (suc p) n (λ k. f (suc (suc k))))
    ∙ (λ i. make (z i) (f 0) (f 1) ∷ tabulate-same n _ (λ q. make (p + suc q) (f (2 * suc q)) (f (2 * suc q + 1))) (λ q l. next q) i)
  where
    next : (q : ℕ) → make (suc p + q) (f (suc (suc (2 * q)))) (f (suc (suc (2 * q + 1)))) ≡ make (p + suc q) (f (2 * suc q)) (f (2 * suc q + 1))
    next q =
        let a : suc p + q ≡ p + suc q = omega arith in
        let b : suc (suc (2 * q)) ≡ 2 * suc q = omega arith in
        let c : suc (suc (2 * q + 1)) ≡ 2 * suc q + 1 = omega arith in
        (λ i. make (a i) (f (b i)) (f (c i)))

-- the fold of a whole word is the word of the table with its lowest variable set
pub fold_of_words : (j k n r : ℕ) (table : List ℕ) → length table ≡ 2 ^ suc k → folded j r (tabulate (2 * n) (word j (suc k) table)) ≡ tabulate n (word (suc j) k (fold_low r table))
fold_of_words j k n r table h =
    pairs_tabulate (λ p f g. fold_pair r (hat j ((2 * p) * 2 ^ j)) f g) 0 n (word j (suc k) table)
    ∙ tabulate-same n _ (word (suc j) k (fold_low r table)) (λ q l. at q)
  where
    at : (q : ℕ) → fold_pair r (hat j ((2 * (0 + q)) * 2 ^ j)) (word j (suc k) table (2 * q)) (word j (suc k) table (2 * q + 1)) ≡ word (suc j) k (fold_low r table) q
    at q = let z : 0 + q ≡ q = omega arith in ap (λ w. fold_pair r (hat j ((2 * w) * 2 ^ j)) (word j (suc k) table (2 * q)) (word j (suc k) table (2 * q + 1))) z ∙ fold_of_word j k q r table h

pub fold_all-push : (rs table : List ℕ) (r : ℕ) → fold_all (rs ++ r ∷ []) table ≡ fold_low r (fold_all rs table)
fold_all-push [] table r = refl
fold_all-push (s ∷ rs) table r = fold_all-push rs (fold_low s table) r

pub length-fold_all : (rs table : List ℕ) (k : ℕ) → length table ≡ 2 ^ (length rs + k) → length (fold_all rs table) ≡ 2 ^ k
length-fold_all [] table k h = let z : 0 + k ≡ k = omega arith in h ∙ ap (λ n. 2 ^ n) z
length-fold_all (r ∷ rs) table k h =
    let a : suc (length rs) + k ≡ suc (length rs + k) = omega arith in
    let b : 2 ^ suc (length rs + k) ≡ 2 * 2 ^ (length rs + k) = omega arith in
    length-fold_all rs (fold_low r table) k (length-fold_low r (2 ^ (length rs + k)) table (h ∙ ap (λ n. 2 ^ n) a ∙ b))

-- the next word
pub next_word : (m r : ℕ) (table draws : List ℕ) → length table ≡ 2 ^ m → length draws < m → folded (length draws) r (word_after m table draws) ≡ word_after m table (draws ++ r ∷ [])
next_word m r table draws h l =
    let e : m - length draws ≡ suc (m - suc (length draws)) = omega arith in
    let f : m ≡ length draws + suc (m - suc (length draws)) = omega arith in
    let t = length-fold_all draws table (suc (m - suc (length draws))) (h ∙ ap (λ n. 2 ^ n) f) in
    let g : m + 2 - length draws ≡ suc (m + 2 - suc (length draws)) = omega arith in
    let p : 2 ^ suc (m + 2 - suc (length draws)) ≡ 2 * 2 ^ (m + 2 - suc (length draws)) = omega arith in
    let q : suc (length draws) ≡ length (draws ++ r ∷ []) = (omega (arith, length_push draws r)) in
    (λ i. folded (length draws) r (tabulate ((ap (λ n. 2 ^ n) g ∙ p) i) (word (length draws) (e i) (fold_all draws table))))
    ∙ fold_of_words (length draws) (m - suc (length draws)) (2 ^ (m + 2 - suc (length draws))) r (fold_all draws table) t
    ∙ (λ i. tabulate (2 ^ (m + 2 - q i)) (word (q i) (m - q i) (sym (fold_all-push draws table r) i)))

-- after all folds each value is the extension
pub last_value : (m p : ℕ) (table draws : List ℕ) → length table ≡ 2 ^ m → length draws ≡ m → word (length draws) (m - length draws) (fold_all draws table) p ≡ extension table draws
last_value m p table draws h e =
    let z : m - length draws ≡ 0 = omega arith in
    ap (λ k. word (length draws) k (fold_all draws table) p) z ∙ last_word (length draws) p draws table (h ∙ ap (λ n. 2 ^ n) (sym e))

pub last_word_is : (m : ℕ) (table draws : List ℕ) → length table ≡ 2 ^ m → length draws ≡ m → word_after m table draws ≡ replicate 4 (extension table draws)
last_word_is m table draws h e =
    let n : m + 2 - length draws ≡ 2 = omega arith in
    ap (λ k. tabulate (2 ^ k) (word (length draws) (m - length draws) (fold_all draws table))) n
    ∙ tabulate-same 4 (word (length draws) (m - length draws) (fold_all draws table)) (λ p. extension table draws) (λ p l. last_value m p table draws h e)
