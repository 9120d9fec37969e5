-- A word as the sum over the places of its table.
use Rattle.std.proofs.Common.{◌≡◌, ℕ, zero, suc, ◌+◌, ◌*◌, ◌/◌, ◌%◌, ◌^◌, ◌<◌, cond, eqb, List, [], ◌∷◌, length, get_or, refl, sym, ◌∙◌, ap, arith}
use Rattle.std.proofs.lemmas.Nat.Bits.{bit_at_lowest, bit_at-suc}
use Rattle.tower_laws.specs.Tower.{mul}
use Rattle.tower_laws.proofs.Field.{identity, field_terms}
use Rattle.cube_laws.specs.Sums.{product_to}
use Rattle.cube_laws.specs.Extension.{bit, extension, fold_low, fold_all}
use Rattle.cube_laws.proofs.Folding.{weighted-fold_all}
use Rattle.cube_laws.proofs.Weights.{sum_to-same, product_to-same, dot_sum, by_weights_is}
use Rattle.word_laws.specs.CodeWord.{hat, hats, branch, subsets, word, word_by_subsets, fold_pair}
use Rattle.word_laws.proofs.Words.{length-subsets, length-hats, fold_word}

lowest : (w : ℕ) → bit w 0 ≡ w % 2
lowest w = bit_at_lowest w

-- ---- the members of the list of products
branch_at : (x q b : ℕ) (ts : List ℕ) → b < 2 → q < length ts → get_or (branch x ts) (2 * q + b) 0 ≡ mul (cond (eqb b 1) x 1) (get_or ts q 0)
branch_at x q b [] h l = absurd (omega arith)
branch_at x zero zero (t ∷ ts) h l = identity (t ∷ []) (search field_terms depth 60 fits 20000) refl
branch_at x zero (suc zero) (t ∷ ts) h l = refl
branch_at x zero (suc (suc b)) (t ∷ ts) h l = absurd (omega arith)
branch_at x (suc q) b (t ∷ ts) h l =
    let e : 2 * suc q + b ≡ suc (suc (2 * q + b)) = omega arith in
    ap (λ n. get_or (branch x (t ∷ ts)) n 0) e ∙ branch_at x q b ts h (omega arith)

pub hats_at : (j k x w : ℕ) → w < 2 ^ k → get_or (subsets (hats j k x)) w 0 ≡ product_to k (λ i. cond (eqb (bit w i) 1) (hat (j + i) x) 1)
hats_at j zero x zero h = refl
hats_at j zero x (suc w) h = absurd (omega arith)
hats_at j (suc k) x w h =
    let p : 2 ^ suc k ≡ 2 * 2 ^ k = omega arith in
    let e : w ≡ 2 * (w / 2) + w % 2 = omega arith in
    let ls = length-subsets (hats (suc j) k x) ∙ ap (λ n. 2 ^ n) (length-hats (suc j) k x) in
    let a = branch_at (hat j x) (w / 2) (w % 2) (subsets (hats (suc j) k x)) (omega arith) (omega arith) in
    let c = hats_at (suc j) k x (w / 2) (omega arith) in
    let d = product_to-same k (λ i. cond (eqb (bit (w / 2) i) 1) (hat (suc j + i) x) 1) (λ i. cond (eqb (bit w (suc i)) 1) (hat (j + suc i) x) 1) (λ i l. next i) in
    let z : j + 0 ≡ j = omega arith in
    ap (λ n. get_or (branch (hat j x) (subsets (hats (suc j) k x))) n 0) e ∙ a
    ∙ (λ t. mul (cond (eqb (sym (lowest w) t) 1) (hat (sym z t) x) 1) ((c ∙ d) t))
  where
    next : (i : ℕ) → cond (eqb (bit (w / 2) i) 1) (hat (suc j + i) x) 1 ≡ cond (eqb (bit w (suc i)) 1) (hat (j + suc i) x) 1
    next i = let e : suc j + i ≡ j + suc i = omega arith in (λ t. cond (eqb (sym (bit_at-suc w i) t) 1) (hat (e t) x) 1)

-- the quick form of a word is the word
pub by_subsets_is : (j k p : ℕ) (table : List ℕ) → word_by_subsets j k table p ≡ word j k table p
by_subsets_is j k p table =
    let ls = length-subsets (hats j k (p * 2 ^ j)) ∙ ap (λ n. 2 ^ n) (length-hats j k (p * 2 ^ j)) in
    dot_sum (2 ^ k) table (subsets (hats j k (p * 2 ^ j))) ls
    ∙ sum_to-same (2 ^ k) (λ w. mul (get_or table w 0) (get_or (subsets (hats j k (p * 2 ^ j))) w 0)) (λ w. mul (get_or table w 0) (product_to k (λ i. cond (eqb (bit w i) 1) (hat (j + i) (p * 2 ^ j)) 1)))
    (λ w l. ap (mul (get_or table w 0)) (hats_at j k (p * 2 ^ j) w l))

-- the fold of word j is word j + 1 of the table with its lowest variable set
pub fold_of_word : (j k p r : ℕ) (table : List ℕ) → length table ≡ 2 ^ suc k
    → fold_pair r (hat j ((2 * p) * 2 ^ j)) (word j (suc k) table (2 * p)) (word j (suc k) table (2 * p + 1)) ≡ word (suc j) k (fold_low r table) p
fold_of_word j k p r table h =
    (λ i. fold_pair r (hat j ((2 * p) * 2 ^ j)) (sym (by_subsets_is j (suc k) (2 * p) table) i) (sym (by_subsets_is j (suc k) (2 * p + 1) table) i))
    ∙ fold_word j k p r table h ∙ by_subsets_is (suc j) k p (fold_low r table)

-- after all folds each value is the extension
pub last_word : (j p : ℕ) (rs table : List ℕ) → length table ≡ 2 ^ length rs → word j 0 (fold_all rs table) p ≡ extension table rs
last_word j p rs table h = sym (by_subsets_is j 0 p (fold_all rs table)) ∙ weighted-fold_all rs table h ∙ by_weights_is table rs
