-- Products of all sets of numbers.
use Rattle.std.proofs.Common.{◌≡◌, ℕ, zero, suc, ◌+◌, ◌*◌, ◌/◌, ◌%◌, ◌^◌, ◌<◌, eqb, cond, List, [], ◌∷◌, ◌++◌, map, length, get_or, bit_xor, refl, sym, ◌∙◌, ap, arith}
use Rattle.std.proofs.lemmas.Nat.Bits.{bit_at_lowest, bit_at-suc}
use Rattle.tower_laws.specs.Tower.{mul}
use Rattle.tower_laws.proofs.Field.{identity, field_terms}
use Rattle.tower_laws.proofs.Levels.{field_one}
use Rattle.tower_laws.proofs.Rules.{field_left}
use Rattle.cube_laws.specs.Sums.{product_to}
use Rattle.cube_laws.specs.Extension.{bit, fold_low}
use Rattle.cube_laws.proofs.Weights.{product_to-same}
use Rattle.word_laws.specs.CodeWord.{branch, subsets}
use Rattle.word_laws.proofs.Words.{length-subsets}

branch_at : (x q b : ℕ) (ts : List ℕ) → b < 2 → q < length ts → get_or (branch x ts) (2 * q + b) 0 ≡ mul (cond (eqb b 1) x 1) (get_or ts q 0)
branch_at x q b [] h l = absurd (omega arith)
branch_at x zero zero (t ∷ ts) h l = sym (field_one t)
branch_at x zero (suc zero) (t ∷ ts) h l = refl
branch_at x zero (suc (suc b)) (t ∷ ts) h l = absurd (omega arith)
branch_at x (suc q) b (t ∷ ts) h l =
    let e : 2 * suc q + b ≡ suc (suc (2 * q + b)) = omega arith in
    ap (λ n. get_or (branch x (t ∷ ts)) n 0) e ∙ branch_at x q b ts h (omega arith)

-- at a position the product of the numbers at its bits
pub subsets_at : (xs : List ℕ) (w : ℕ) → w < 2 ^ length xs → get_or (subsets xs) w 0 ≡ product_to (length xs) (λ i. cond (eqb (bit w i) 1) (get_or xs i 0) 1)
subsets_at [] zero h = refl
subsets_at [] (suc w) h = absurd (omega arith)
subsets_at (x ∷ xs) w h =
    let p : 2 ^ suc (length xs) ≡ 2 * 2 ^ length xs = omega arith in
    let e : w ≡ 2 * (w / 2) + w % 2 = omega arith in
    let ls = length-subsets xs in
    let a = branch_at x (w / 2) (w % 2) (subsets xs) (omega arith) (omega arith) in
    let c = subsets_at xs (w / 2) (omega arith) in
    let d = product_to-same (length xs) (λ i. cond (eqb (bit (w / 2) i) 1) (get_or xs i 0) 1) (λ i. cond (eqb (bit w (suc i)) 1) (get_or xs i 0) 1) (λ i l. ap (λ b. cond (eqb b 1) (get_or xs i 0) 1) (sym (bit_at-suc w i))) in
    ap (λ n. get_or (branch x (subsets xs)) n 0) e ∙ a
    ∙ (λ t. mul (cond (eqb (sym (bit_at_lowest w) t) 1) x 1) ((c ∙ d) t))

branch-append : (x : ℕ) (ts us : List ℕ) → branch x (ts ++ us) ≡ branch x ts ++ branch x us
branch-append x [] us = refl
branch-append x (t ∷ ts) us = ap (λ l. t ∷ mul x t ∷ l) (branch-append x ts us)

branch-map : (x y : ℕ) (ts : List ℕ) → branch x (map (mul y) ts) ≡ map (mul y) (branch x ts)
branch-map x y [] = refl
branch-map x y (t ∷ ts) = let a = field_left x y t in let r = branch-map x y ts in cc

-- one more number, at the end
pub subsets-last : (xs : List ℕ) (y : ℕ) → subsets (xs ++ (y ∷ [])) ≡ subsets xs ++ map (mul y) (subsets xs)
subsets-last [] y = refl
subsets-last (x ∷ xs) y = ap (branch x) (subsets-last xs y) ∙ branch-append x (subsets xs) (map (mul y) (subsets xs)) ∙ ap (λ l. branch x (subsets xs) ++ l) (branch-map x y (subsets xs))

cell : (x y t : ℕ) → bit_xor t (mul y (bit_xor t (mul x t))) ≡ mul (bit_xor 1 (mul y (bit_xor 1 x))) t
cell x y t = identity (x ∷ y ∷ t ∷ []) (search field_terms depth 60 fits 20000) refl

pub fold_low-branch : (x y : ℕ) (ts : List ℕ) → fold_low y (branch x ts) ≡ map (mul (bit_xor 1 (mul y (bit_xor 1 x)))) ts
fold_low-branch x y [] = refl
fold_low-branch x y (t ∷ ts) = let a = cell x y t in let r = fold_low-branch x y ts in cc
