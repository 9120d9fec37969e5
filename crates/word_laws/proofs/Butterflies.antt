-- The transform by butterflies.
use Rattle.std.proofs.Common.{◌≡◌, ℕ, zero, suc, ◌+◌, ◌*◌, ◌^◌, ◌<◌, List, [], ◌∷◌, ◌++◌, map, take, drop, length, bit_xor, refl, sym, ◌∙◌, ap, subst, arith, length-take, length-drop}
use Rattle.std.specs.Int.Bits.{xor_zero_r, xor_shifted}
use Rattle.tower_laws.specs.Tower.{mul}
use Rattle.cube_laws.specs.Extension.{dot}
use Rattle.tower_laws.proofs.Field.{identity, from_one, field_terms}
use Rattle.word_laws.specs.CodeWord.{hat, hats, branch, subsets, word, word_by_subsets}
use Rattle.cube_laws.specs.Sums.{tabulate}
use Rattle.word_laws.specs.Encoding.{mix, encode}
use Rattle.word_laws.proofs.Vanishing.{hat-add, hat_below, hat_one}
use Rattle.word_laws.proofs.WordSums.{by_subsets_is}
use Rattle.word_laws.proofs.Words.{length-subsets, length-hats, even_place, next_place}
use Rattle.cube_laws.proofs.Weights.{dot-append, tabulate-same, tabulate-add}

hats-snoc : (j k x : ℕ) → hats j (suc k) x ≡ hats j k x ++ (hat (j + k) x ∷ [])
hats-snoc j zero x = let e : j ≡ j + 0 = omega arith in ap (λ n. hat n x ∷ []) e
hats-snoc j (suc k) x = let e : suc j + k ≡ j + suc k = omega arith in ap (λ l. hat j x ∷ l) (hats-snoc (suc j) k x ∙ ap (λ n. hats (suc j) k x ++ (hat n x ∷ [])) e)

branch-append : (x : ℕ) (ts us : List ℕ) → branch x (ts ++ us) ≡ branch x ts ++ branch x us
branch-append x [] us = refl
branch-append x (t ∷ ts) us = ap (λ l. t ∷ mul x t ∷ l) (branch-append x ts us)

turn : (x y t : ℕ) → mul x (mul y t) ≡ mul y (mul x t)
turn x y t = identity (x ∷ y ∷ t ∷ []) (search field_terms depth 60 fits 20000) refl

branch-map : (x y : ℕ) (ts : List ℕ) → branch x (map (mul y) ts) ≡ map (mul y) (branch x ts)
branch-map x y [] = refl
branch-map x y (t ∷ ts) = let a = turn x y t in let r = branch-map x y ts in cc

subsets-snoc : (xs : List ℕ) (y : ℕ) → subsets (xs ++ (y ∷ [])) ≡ subsets xs ++ map (mul y) (subsets xs)
subsets-snoc [] y = refl
subsets-snoc (x ∷ xs) y = ap (branch x) (subsets-snoc xs y) ∙ branch-append x (subsets xs) (map (mul y) (subsets xs)) ∙ ap (λ l. branch x (subsets xs) ++ l) (branch-map x y (subsets xs))

mix_step : (a b c s p q r : ℕ) → r ≡ bit_xor p q → bit_xor (mul a s) (bit_xor (bit_xor (mul b (mul c s)) p) q) ≡ bit_xor (mul (bit_xor a (mul c b)) s) r
mix_step a b c s p q r h = from_one 1 h (identity (a ∷ b ∷ c ∷ s ∷ p ∷ q ∷ r ∷ []) (search field_terms depth 60 fits 20000) refl)

turned : (a b c d e : ℕ) → bit_xor (bit_xor a b) (bit_xor c d) ≡ bit_xor a (bit_xor (bit_xor c b) d)
turned a b c d e = identity (a ∷ b ∷ c ∷ d ∷ []) (search field_terms depth 60 fits 20000) refl

dot-mix : (c : ℕ) (lo hi ts : List ℕ) → length lo ≡ length hi → bit_xor (dot lo ts) (dot hi (map (mul c) ts)) ≡ dot (mix c lo hi) ts
dot-mix c [] [] ts h = refl
dot-mix c [] (b ∷ hi) ts h = absurd (omega arith)
dot-mix c (a ∷ lo) [] ts h = absurd (omega arith)
dot-mix c (a ∷ lo) (b ∷ hi) [] h = refl
dot-mix c (a ∷ lo) (b ∷ hi) (s ∷ ts) h =
    turned (mul a s) (dot lo ts) (mul b (mul c s)) (dot hi (map (mul c) ts)) 0
    ∙ mix_step a b c s (dot lo ts) (dot hi (map (mul c) ts)) (dot (mix c lo hi) ts) (sym (dot-mix c lo hi ts (omega arith)))

pub length-mix : (c : ℕ) (lo hi : List ℕ) → length lo ≡ length hi → length (mix c lo hi) ≡ length lo
length-mix c [] hi h = refl
length-mix c (a ∷ lo) [] h = absurd (omega arith)
length-mix c (a ∷ lo) (b ∷ hi) h = ap suc (length-mix c lo hi (omega arith))

take_drop : (n : ℕ) (xs : List ℕ) → xs ≡ take n xs ++ drop n xs
take_drop zero xs = refl
take_drop (suc n) [] = refl
take_drop (suc n) (x ∷ xs) = ap (λ l. x ∷ l) (take_drop n xs)

-- the value at x of the polynomial of a table in the novel basis
abbrev pub value : ℕ → List ℕ → ℕ → ℕ
value k table x = dot table (subsets (hats 0 k x))

-- its highest variable goes out
value-suc : (k x : ℕ) (table : List ℕ) → length table ≡ 2 ^ suc k → value (suc k) table x ≡ value k (mix (hat k x) (take (2 ^ k) table) (drop (2 ^ k) table)) x
value-suc k x table h =
    let p : 2 ^ suc k ≡ 2 * 2 ^ k = omega arith in
    let z : 0 + k ≡ k = omega arith in
    let s = hats-snoc 0 k x ∙ ap (λ n. hats 0 k x ++ (hat n x ∷ [])) z in
    let ls = length-subsets (hats 0 k x) ∙ ap (λ n. 2 ^ n) (length-hats 0 k x) in
    let lt = length-take (2 ^ k) table in
    let ld = length-drop (2 ^ k) table in
    (λ i. dot (take_drop (2 ^ k) table i) ((ap subsets s ∙ subsets-snoc (hats 0 k x) (hat k x)) i))
    ∙ dot-append (take (2 ^ k) table) (drop (2 ^ k) table) (subsets (hats 0 k x)) (map (mul (hat k x)) (subsets (hats 0 k x))) (omega arith)
    ∙ dot-mix (hat k x) (take (2 ^ k) table) (drop (2 ^ k) table) (subsets (hats 0 k x)) (omega arith)

low_hat : (k b q : ℕ) → q < 2 ^ k → hat k (b * 2 ^ suc k + q) ≡ hat k (b * 2 ^ suc k)
low_hat k b q h =
    let p : 2 ^ suc k ≡ 2 * 2 ^ k = omega arith in
    let s = xor_shifted b (suc k) q (omega arith) in
    cc (hat-add k (b * 2 ^ suc k) q, hat_below k q h, xor_zero_r (hat k (b * 2 ^ suc k)))

high_hat : (k b q : ℕ) → q < 2 ^ k → hat k (b * 2 ^ suc k + (2 ^ k + q)) ≡ bit_xor (hat k (b * 2 ^ suc k)) 1
high_hat k b q h =
    let p : 2 ^ suc k ≡ 2 * 2 ^ k = omega arith in
    let s = xor_shifted b (suc k) (2 ^ k + q) (omega arith) in
    let one : 1 * 2 ^ k ≡ 2 ^ k = omega arith in
    let t : bit_xor (2 ^ k) q ≡ 2 ^ k + q = subst (λ w. bit_xor w q ≡ w + q) one (xor_shifted 1 k q h) in
    let u : bit_xor 1 0 ≡ 1 = refl in
    cc (hat-add k (b * 2 ^ suc k) (2 ^ k + q), hat-add k (2 ^ k) q, hat_below k q h, hat_one k)

-- the butterflies give the values at the block's places
pub encode_is : (k b : ℕ) (table : List ℕ) → length table ≡ 2 ^ k → encode k b table ≡ tabulate (2 ^ k) (λ q. value k table (b * 2 ^ k + q))
encode_is zero b [] h = absurd (omega arith)
encode_is zero b (t ∷ []) h = ap (λ w. w ∷ []) (identity (t ∷ []) (search field_terms depth 60 fits 20000) refl)
encode_is zero b (t ∷ u ∷ table) h = absurd (omega arith)
encode_is (suc k) b table h =
    let p : 2 ^ suc k ≡ 2 ^ k + 2 ^ k = omega arith in
    let lt = length-take (2 ^ k) table in
    let ld = length-drop (2 ^ k) table in
    let c = hat k (b * 2 ^ suc k) in
    let l1 = length-mix (hat k (b * 2 ^ suc k)) (take (2 ^ k) table) (drop (2 ^ k) table) (omega arith) in
    let l2 = length-mix (bit_xor (hat k (b * 2 ^ suc k)) 1) (take (2 ^ k) table) (drop (2 ^ k) table) (omega arith) in
    (λ i. encode_is k (2 * b) (mix (hat k (b * 2 ^ suc k)) (take (2 ^ k) table) (drop (2 ^ k) table)) (omega arith) i
    ++ encode_is k (2 * b + 1) (mix (bit_xor (hat k (b * 2 ^ suc k)) 1) (take (2 ^ k) table) (drop (2 ^ k) table)) (omega arith) i)
    ∙ (λ i. tabulate-same (2 ^ k) _ (λ q. value (suc k) table (b * 2 ^ suc k + q)) (λ q l. low q l) i
    ++ tabulate-same (2 ^ k) _ (λ q. value (suc k) table (b * 2 ^ suc k + (2 ^ k + q))) (λ q l. high q l) i)
    ∙ sym (ap (λ n. tabulate n (λ q. value (suc k) table (b * 2 ^ suc k + q))) p ∙ tabulate-add (2 ^ k) (2 ^ k) (λ q. value (suc k) table (b * 2 ^ suc k + q)))
  where
    low : (q : ℕ) → q < 2 ^ k → value k (mix (hat k (b * 2 ^ suc k)) (take (2 ^ k) table) (drop (2 ^ k) table)) ((2 * b) * 2 ^ k + q) ≡ value (suc k) table (b * 2 ^ suc k + q)
    low q l =
        let e : (2 * b) * 2 ^ k + q ≡ b * 2 ^ suc k + q = ap (λ w. w + q) (even_place k b) in
        (λ i. value k (mix (sym (low_hat k b q l) i) (take (2 ^ k) table) (drop (2 ^ k) table)) (e i)) ∙ sym (value-suc k (b * 2 ^ suc k + q) table h)

    high : (q : ℕ) → q < 2 ^ k → value k (mix (bit_xor (hat k (b * 2 ^ suc k)) 1) (take (2 ^ k) table) (drop (2 ^ k) table)) ((2 * b + 1) * 2 ^ k + q) ≡ value (suc k) table (b * 2 ^ suc k + (2 ^ k + q))
    high q l =
        let n = next_place k b in
        let e : (2 * b + 1) * 2 ^ k + q ≡ b * 2 ^ suc k + (2 ^ k + q) = omega arith in
        (λ i. value k (mix (sym (high_hat k b q l) i) (take (2 ^ k) table) (drop (2 ^ k) table)) (e i)) ∙ sym (value-suc k (b * 2 ^ suc k + (2 ^ k + q)) table h)

at_start : (k p : ℕ) (table : List ℕ) → value k table p ≡ word 0 k table p
at_start k p table =
    let e : p ≡ p * 2 ^ 0 = omega arith in
    let q : value k table p ≡ word_by_subsets 0 k table p = ap (value k table) e in
    q ∙ by_subsets_is 0 k p table

pub encode_word : (k b : ℕ) (table : List ℕ) → length table ≡ 2 ^ k → encode k b table ≡ tabulate (2 ^ k) (λ q. word 0 k table (b * 2 ^ k + q))
encode_word k b table h =
    encode_is k b table h ∙ tabulate-same (2 ^ k) (λ q. value k table (b * 2 ^ k + q)) (λ q. word 0 k table (b * 2 ^ k + q)) (λ q l. at_start k (b * 2 ^ k + q) table)
