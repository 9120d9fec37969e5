-- Sums and lists over an index, and the extension by its quick form.
use Rattle.std.proofs.Common.{◌≡◌, ℕ, zero, suc, ◌+◌, ◌*◌, ◌/◌, ◌%◌, ◌^◌, ◌<◌, List, [], ◌∷◌, length, get_or, bit_xor, refl, sym, ◌∙◌, ap, arith, ◌++◌}
use Rattle.std.proofs.lemmas.Nat.Bits.{bit_at_lowest, bit_at-suc}
use Rattle.std.specs.Int.Bits.{xor_assoc}
use Rattle.tower_laws.specs.Tower.{mul}
use Rattle.tower_laws.proofs.Field.{identity, from_one, field_terms}
use Rattle.cube_laws.specs.Sums.{sum_to, product_to, tabulate}
use Rattle.cube_laws.specs.Extension.{dot, spread, weights, extension, extension_by_weights, fold_low, bits_of, bit, eq}
use Rattle.cube_laws.proofs.Folding.{length-weights, weighted-fold_low, weighted-bits}

pub sum_to-same : (n : ℕ) (f g : ℕ → ℕ) → ((k : ℕ) → k < n → f k ≡ g k) → sum_to n f ≡ sum_to n g
sum_to-same zero f g h = refl
sum_to-same (suc n) f g h = let e = h 0 (omega arith) in let r = sum_to-same n (λ k. f (suc k)) (λ k. g (suc k)) (λ k l. h (suc k) (omega arith)) in cc

pub product_to-same : (n : ℕ) (f g : ℕ → ℕ) → ((k : ℕ) → k < n → f k ≡ g k) → product_to n f ≡ product_to n g
product_to-same zero f g h = refl
product_to-same (suc n) f g h = let e = h 0 (omega arith) in let r = product_to-same n (λ k. f (suc k)) (λ k. g (suc k)) (λ k l. h (suc k) (omega arith)) in cc

first_none : (a s : ℕ) → 0 ≡ s → 0 ≡ bit_xor (mul 0 a) s
first_none a s h = from_one 1 h (identity (a ∷ s ∷ []) (search field_terms depth 60 fits 20000) refl)

no_products : (n : ℕ) (g : ℕ → ℕ) → 0 ≡ sum_to n (λ k. mul 0 (g k))
no_products zero g = refl
no_products (suc n) g = first_none (g 0) _ (no_products n (λ k. g (suc k)))

-- a sum of products over the places of the second list, the first being 0 past its end
pub dot_sum : (n : ℕ) (xs ys : List ℕ) → length ys ≡ n → dot xs ys ≡ sum_to n (λ k. mul (get_or xs k 0) (get_or ys k 0))
dot_sum n [] ys h = no_products n (λ k. get_or ys k 0)
dot_sum zero (x ∷ xs) [] h = refl
dot_sum (suc n) (x ∷ xs) [] h = absurd (omega arith)
dot_sum zero (x ∷ xs) (y ∷ ys) h = absurd (omega arith)
dot_sum (suc n) (x ∷ xs) (y ∷ ys) h = ap (bit_xor (mul x y)) (dot_sum n xs ys (omega arith))

lowest : (w : ℕ) → bit w 0 ≡ w % 2
lowest w = bit_at_lowest w

-- ---- the weights of a point
weight_at : (x q b : ℕ) (ts : List ℕ) → b < 2 → q < length ts → get_or (spread x ts) (2 * q + b) 0 ≡ mul (bit_xor (mul x b) (mul (bit_xor 1 x) (bit_xor 1 b))) (get_or ts q 0)
weight_at x q b [] h l = absurd (omega arith)
weight_at x zero zero (t ∷ ts) h l = identity (x ∷ t ∷ []) (search field_terms depth 60 fits 20000) refl
weight_at x zero (suc zero) (t ∷ ts) h l = identity (x ∷ t ∷ []) (search field_terms depth 60 fits 20000) refl
weight_at x zero (suc (suc b)) (t ∷ ts) h l = absurd (omega arith)
weight_at x (suc q) b (t ∷ ts) h l =
    let e : 2 * suc q + b ≡ suc (suc (2 * q + b)) = omega arith in
    ap (λ n. get_or (spread x (t ∷ ts)) n 0) e ∙ weight_at x q b ts h (omega arith)

pub weights_at : (z : List ℕ) (p : ℕ) → p < 2 ^ length z → get_or (weights z) p 0 ≡ eq z p
weights_at [] zero h = refl
weights_at [] (suc p) h = absurd (omega arith)
weights_at (x ∷ z) p h =
    let q : 2 ^ suc (length z) ≡ 2 * 2 ^ length z = omega arith in
    let e : p ≡ 2 * (p / 2) + p % 2 = omega arith in
    let ls = length-weights z in
    let a = weight_at x (p / 2) (p % 2) (weights z) (omega arith) (omega arith) in
    let c = weights_at z (p / 2) (omega arith) in
    let d = product_to-same (length z) (λ k. bit_xor (mul (get_or z k 0) (bit (p / 2) k)) (mul (bit_xor 1 (get_or z k 0)) (bit_xor 1 (bit (p / 2) k))))
    (λ k. bit_xor (mul (get_or z k 0) (bit p (suc k))) (mul (bit_xor 1 (get_or z k 0)) (bit_xor 1 (bit p (suc k)))))
    (λ k l. ap (λ b. bit_xor (mul (get_or z k 0) b) (mul (bit_xor 1 (get_or z k 0)) (bit_xor 1 b))) (sym (bit_at-suc p k))) in
    ap (λ n. get_or (spread x (weights z)) n 0) e ∙ a
    ∙ (λ t. mul (bit_xor (mul x (sym (lowest p) t)) (mul (bit_xor 1 x) (bit_xor 1 (sym (lowest p) t)))) ((c ∙ d) t))

-- the quick form of an extension is the extension
pub by_weights_is : (table z : List ℕ) → extension_by_weights table z ≡ extension table z
by_weights_is table z =
    dot_sum (2 ^ length z) table (weights z) (length-weights z)
    ∙ sum_to-same (2 ^ length z) (λ p. mul (get_or table p 0) (get_or (weights z) p 0)) (λ p. mul (get_or table p 0) (eq z p)) (λ p l. ap (mul (get_or table p 0)) (weights_at z p l))

pub extension-fold_low : (table : List ℕ) (x : ℕ) (xs : List ℕ) → length table ≡ 2 ^ suc (length xs) → extension table (x ∷ xs) ≡ extension (fold_low x table) xs
extension-fold_low table x xs h = sym (by_weights_is table (x ∷ xs)) ∙ weighted-fold_low table x xs h ∙ by_weights_is (fold_low x table) xs

pub extension-bits : (n p : ℕ) (table : List ℕ) → length table ≡ 2 ^ n → p < 2 ^ n → extension table (bits_of n p) ≡ get_or table p 0
extension-bits n p table h l = sym (by_weights_is table (bits_of n p)) ∙ weighted-bits n p table h l

pub tabulate-same : (n : ℕ) (f g : ℕ → ℕ) → ((k : ℕ) → k < n → f k ≡ g k) → tabulate n f ≡ tabulate n g
tabulate-same zero f g h = refl
tabulate-same (suc n) f g h = let e = h 0 (omega arith) in let r = tabulate-same n (λ k. f (suc k)) (λ k. g (suc k)) (λ k l. h (suc k) (omega arith)) in cc

pub tabulate-add : (m n : ℕ) (f : ℕ → ℕ) → tabulate (m + n) f ≡ tabulate m f ++ tabulate n (λ k. f (m + k))
tabulate-add zero n f = let e : 0 + n ≡ n = omega arith in ap (λ w. tabulate w f) e ∙ tabulate-same n f (λ k. f (0 + k)) (λ k l. let z : k ≡ 0 + k = omega arith in ap f z)
tabulate-add (suc m) n f =
    let e : suc m + n ≡ suc (m + n) = omega arith in
    ap (λ w. tabulate w f) e
    ∙ ap (λ l. f 0 ∷ l) (tabulate-add m n (λ k. f (suc k)) ∙ ap (λ l. tabulate m (λ k. f (suc k)) ++ l) (tabulate-same n (λ k. f (suc (m + k))) (λ k. f (suc m + k)) (λ k l. let z : suc (m + k) ≡ suc m + k = omega arith in ap f z)))

pub length-tabulate : (n : ℕ) (f : ℕ → ℕ) → length (tabulate n f) ≡ n
length-tabulate zero f = refl
length-tabulate (suc n) f = ap suc (length-tabulate n (λ k. f (suc k)))

pub dot-append : (xs ys us vs : List ℕ) → length xs ≡ length us → dot (xs ++ ys) (us ++ vs) ≡ bit_xor (dot xs us) (dot ys vs)
dot-append [] ys [] vs h = refl
dot-append [] ys (u ∷ us) vs h = absurd (omega arith)
dot-append (x ∷ xs) ys [] vs h = absurd (omega arith)
dot-append (x ∷ xs) ys (u ∷ us) vs h = ap (bit_xor (mul x u)) (dot-append xs ys us vs (omega arith)) ∙ sym (xor_assoc (mul x u) (dot xs us) (dot ys vs))
