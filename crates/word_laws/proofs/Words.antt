-- Words and their folds.
use Rattle.std.proofs.Common.{◌≡◌, ℕ, zero, suc, ◌+◌, ◌*◌, ◌^◌, ◌<◌, List, [], ◌∷◌, length, bit_xor, refl, sym, ◌∙◌, ap, arith}
use Rattle.std.proofs.lemmas.Nat.{pow_below}
use Rattle.std.specs.Int.Bits.{xor_zero_r, xor_shifted}
use Rattle.tower_laws.specs.Tower.{mul}
use Rattle.cube_laws.specs.Extension.{dot, fold_low}
use Rattle.tower_laws.proofs.Field.{identity, from_one, field_terms}
use Rattle.word_laws.specs.CodeWord.{hat, hats, branch, subsets, word_by_subsets, fold_pair}
use Rattle.word_laws.proofs.Vanishing.{hat-add, hat_below, hat_one}

pub length-branch : (x : ℕ) (ts : List ℕ) → length (branch x ts) ≡ 2 * length ts
length-branch x [] = refl
length-branch x (t ∷ ts) = let h = length-branch x ts in omega arith

pub length-hats : (j k x : ℕ) → length (hats j k x) ≡ k
length-hats j zero x = refl
length-hats j (suc k) x = ap suc (length-hats (suc j) k x)

pub length-subsets : (xs : List ℕ) → length (subsets xs) ≡ 2 ^ length xs
length-subsets [] = refl
length-subsets (x ∷ xs) = let p : 2 ^ suc (length xs) ≡ 2 * 2 ^ length xs = omega arith in length-branch x (subsets xs) ∙ ap (λ n. 2 * n) (length-subsets xs) ∙ sym p

fold_step : (r x a b s d e f : ℕ) → fold_pair r x d e ≡ f
    → fold_pair r x (bit_xor (mul a s) (bit_xor (mul b (mul x s)) d)) (bit_xor (mul a s) (bit_xor (mul b (mul (bit_xor x 1) s)) e)) ≡ bit_xor (mul (bit_xor a (mul r (bit_xor a b))) s) f
fold_step r x a b s d e f h = from_one 1 h (identity (r ∷ x ∷ a ∷ b ∷ s ∷ d ∷ e ∷ f ∷ []) (search field_terms depth 60 fits 20000) refl)

fold_nil : (r x : ℕ) → fold_pair r x 0 0 ≡ 0
fold_nil r x = identity (r ∷ x ∷ []) (search field_terms depth 60 fits 20000) refl

-- the fold of the two values of a pair, which differ in their lowest point alone
pub dot_fold : (r x : ℕ) (table ts : List ℕ) → length table ≡ 2 * length ts → fold_pair r x (dot table (branch x ts)) (dot table (branch (bit_xor x 1) ts)) ≡ dot (fold_low r table) ts
dot_fold r x [] [] h = fold_nil r x
dot_fold r x [] (t ∷ ts) h = absurd (omega arith)
dot_fold r x (a ∷ []) [] h = absurd (omega arith)
dot_fold r x (a ∷ []) (t ∷ ts) h = absurd (omega arith)
dot_fold r x (a ∷ b ∷ table) [] h = absurd (omega arith)
dot_fold r x (a ∷ b ∷ table) (t ∷ ts) h = fold_step r x a b t (dot table (branch x ts)) (dot table (branch (bit_xor x 1) ts)) (dot (fold_low r table) ts) (dot_fold r x table ts (omega arith))

-- below 2 ^ j a place counts nothing from j on
pub hats-add : (j k x u : ℕ) → u < 2 ^ j → hats j k (bit_xor x u) ≡ hats j k x
hats-add j zero x u h = refl
hats-add j (suc k) x u h =
    let e1 = hat-add j x u in
    let e2 = hat_below j u h in
    let e3 = xor_zero_r (hat j x) in
    let p : 2 ^ suc j ≡ 2 * 2 ^ j = omega arith in
    let e4 = hats-add (suc j) k x u (omega arith) in
    cc

pub even_place : (j p : ℕ) → (2 * p) * 2 ^ j ≡ p * 2 ^ suc j
even_place j p = let e : 2 ^ suc j ≡ 2 * 2 ^ j = omega arith in grind arith

pub next_place : (j p : ℕ) → (2 * p + 1) * 2 ^ j ≡ p * 2 ^ suc j + 2 ^ j
next_place j p = let e : (2 * p + 1) * 2 ^ j ≡ (2 * p) * 2 ^ j + 2 ^ j = grind arith in e ∙ ap (λ w. w + 2 ^ j) (even_place j p)

odd_place : (j p : ℕ) → (2 * p + 1) * 2 ^ j ≡ bit_xor (p * 2 ^ suc j) (2 ^ j)
odd_place j p =
    let l : 2 ^ j < 2 ^ suc j = pow_below j (suc j) (omega arith) in
    next_place j p ∙ sym (xor_shifted p (suc j) (2 ^ j) l)

-- in the quick form, the fold of word j is word j + 1 of the table with its lowest variable set
pub fold_word : (j k p r : ℕ) (table : List ℕ) → length table ≡ 2 ^ suc k
    → fold_pair r (hat j ((2 * p) * 2 ^ j)) (word_by_subsets j (suc k) table (2 * p)) (word_by_subsets j (suc k) table (2 * p + 1)) ≡ word_by_subsets (suc j) k (fold_low r table) p
fold_word j k p r table h =
    let S = subsets (hats (suc j) k (p * 2 ^ suc j)) in
    let x = hat j ((2 * p) * 2 ^ j) in
    let l : 2 ^ j < 2 ^ suc j = pow_below j (suc j) (omega arith) in
    let e0 = even_place j p in
    let e1 = odd_place j p in
    let e2 = hats-add (suc j) k (p * 2 ^ suc j) (2 ^ j) l in
    let e3 = hat-add j (p * 2 ^ suc j) (2 ^ j) in
    let e4 = hat_one j in
    let q : 2 ^ suc k ≡ 2 * 2 ^ k = omega arith in
    let ls = length-subsets (hats (suc j) k (p * 2 ^ suc j)) ∙ ap (λ n. 2 ^ n) (length-hats (suc j) k (p * 2 ^ suc j)) in
    let f0 : word_by_subsets j (suc k) table (2 * p) ≡ dot table (branch (hat j ((2 * p) * 2 ^ j)) (subsets (hats (suc j) k (p * 2 ^ suc j)))) = cc in
    let f1 : word_by_subsets j (suc k) table (2 * p + 1) ≡ dot table (branch (bit_xor (hat j ((2 * p) * 2 ^ j)) 1) (subsets (hats (suc j) k (p * 2 ^ suc j)))) = cc in
    (λ i. fold_pair r (hat j ((2 * p) * 2 ^ j)) (f0 i) (f1 i)) ∙ dot_fold r (hat j ((2 * p) * 2 ^ j)) table (subsets (hats (suc j) k (p * 2 ^ suc j))) (omega arith)
