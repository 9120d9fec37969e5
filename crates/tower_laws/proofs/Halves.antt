-- Products, squares and inverses by those of the halves.
use Rattle.std.proofs.Common.{◌≡◌, ◌≢◌, ℕ, zero, suc, ◌+◌, ◌*◌, ◌%◌, ◌^◌, ◌<◌, [], ◌∷◌, bit_xor, refl, sym, ◌∙◌, ap, subst, arith}
use Rattle.std.proofs.Math.Nat.{zero-mod, zero-div}
use Rattle.std.proofs.lemmas.Nat.{xor_lt}
use Rattle.tower_laws.specs.Tower.{mul, product, generator, low, high, join}
use Rattle.tower_laws.proofs.Levels.{product-suc, product_lt, product_mul, mul_lt, low_lt, high_lt, generator_lt, join_halves, field_comm, field_zero}
use Rattle.tower_laws.specs.Inverse.{inverse}
use Rattle.tower_laws.proofs.Roots.{split, gen_square, gen_is, as_join}
use Rattle.tower_laws.proofs.Inverses.{norm, norm_lt, norm_not_zero, inverses, product_with, inverse_lt, inverse_zero, inverse_unique, times_inverse}
use Rattle.tower_laws.proofs.Field.{identity, from_one, field_terms}

pub mul_by_halves : (i a b : ℕ) → a < 2 ^ (2 ^ suc i) → b < 2 ^ (2 ^ suc i)
    → mul a b ≡ join i (bit_xor (bit_xor (mul (low i a) (high i b)) (mul (high i a) (low i b))) (mul (mul (high i a) (high i b)) (generator i))) (bit_xor (mul (low i a) (low i b)) (mul (high i a) (high i b)))
mul_by_halves i a b ha hb =
    let p1 = product_mul i (low i a) (low i b) (low_lt i a) (low_lt i b) in
    let p2 = product_mul i (high i a) (high i b) (high_lt i a) (high_lt i b) in
    let p3 = product_mul i (low i a) (high i b) (low_lt i a) (high_lt i b) in
    let p4 = product_mul i (high i a) (low i b) (high_lt i a) (low_lt i b) in
    let p5 = product_mul i (product i (high i a) (high i b)) (generator i) (product_lt i (high i a) (high i b)) (generator_lt i) in
    let w = product_mul (suc i) a b ha hb in
    let h = product-suc i a b in
    cc

cross_from_sums : (a0 a1 b0 b1 : ℕ) → bit_xor (bit_xor (mul (bit_xor a0 a1) (bit_xor b0 b1)) (mul a0 b0)) (mul a1 b1) ≡ bit_xor (mul a0 b1) (mul a1 b0)
cross_from_sums a0 a1 b0 b1 = identity (a0 ∷ a1 ∷ b0 ∷ b1 ∷ []) (search field_terms depth 60 fits 20000) refl

-- the product r of a and b from those of the low halves, of the high halves and of the sums of the halves
pub product_up : (i a b lows highs sums carried r : ℕ) → a < 2 ^ (2 ^ suc i) → b < 2 ^ (2 ^ suc i)
    → lows ≡ mul (low i a) (low i b) → highs ≡ mul (high i a) (high i b) → sums ≡ mul (bit_xor (low i a) (high i a)) (bit_xor (low i b) (high i b)) → carried ≡ mul highs (generator i)
    → r ≡ join i (bit_xor (bit_xor (bit_xor sums lows) highs) carried) (bit_xor lows highs) → r ≡ mul a b
product_up i a b lows highs sums carried r ha hb e1 e2 e3 e4 er =
    let x = cross_from_sums (low i a) (high i a) (low i b) (high i b) in
    let cross : bit_xor (bit_xor sums lows) highs ≡ bit_xor (mul (low i a) (high i b)) (mul (high i a) (low i b)) = cc in
    let h = mul_by_halves i a b ha hb in
    er ∙ ap (λ w. join i (bit_xor w carried) (bit_xor lows highs)) cross ∙ cc

by_generator : (a0 a1 g x : ℕ) → mul x x ≡ bit_xor 1 (mul g x) → mul (bit_xor a0 (mul a1 x)) x ≡ bit_xor a1 (mul (bit_xor a0 (mul a1 g)) x)
by_generator a0 a1 g x h = from_one a1 h (identity (a0 ∷ a1 ∷ g ∷ x ∷ []) (search field_terms depth 60 fits 20000) refl)

-- the product with the last generator exchanges the halves, and the old high half comes back once more
pub mul_generator : (i a : ℕ) → a < 2 ^ (2 ^ suc i) → mul a (generator (suc i)) ≡ join i (bit_xor (low i a) (mul (high i a) (generator i))) (high i a)
mul_generator i a h =
    ap (λ w. mul w (generator (suc i))) (split i a h) ∙ ap (λ w. mul (bit_xor (low i a) (mul (high i a) (2 ^ (2 ^ i)))) w) (gen_is i)
    ∙ by_generator (low i a) (high i a) (generator i) (2 ^ (2 ^ i)) (gen_square i)
    ∙ as_join i (bit_xor (low i a) (mul (high i a) (generator i))) (high i a) (xor_lt (2 ^ i) _ _ (low_lt i a) (mul_lt i (high i a) (generator i) (high_lt i a) (generator_lt i))) (high_lt i a)

pub carried_up : (i a carried r : ℕ) → a < 2 ^ (2 ^ suc i) → carried ≡ mul (high i a) (generator i) → r ≡ join i (bit_xor (low i a) carried) (high i a) → r ≡ mul a (generator (suc i))
carried_up i a carried r h e er = let g = mul_generator i a h in cc

-- ---- squares
cross_cancels : (a0 a1 w : ℕ) → bit_xor (bit_xor (mul a0 a1) (mul a1 a0)) w ≡ w
cross_cancels a0 a1 w = identity (a0 ∷ a1 ∷ w ∷ []) (search field_terms depth 60 fits 20000) refl

pub square_up : (i a lows highs carried r : ℕ) → a < 2 ^ (2 ^ suc i) → lows ≡ mul (low i a) (low i a) → highs ≡ mul (high i a) (high i a) → carried ≡ mul highs (generator i)
    → r ≡ join i carried (bit_xor lows highs) → r ≡ mul a a
square_up i a lows highs carried r h e1 e2 e3 er =
    let x = cross_cancels (low i a) (high i a) (mul (mul (high i a) (high i a)) (generator i)) in
    let m = mul_by_halves i a a h h in
    cc

-- ---- inverses
-- the norm of an element of level i + 1 from its halves, with one product less
abbrev pub norm_of : ℕ → ℕ → ℕ → ℕ
norm_of g a0 a1 = bit_xor (mul a0 (bit_xor a0 (mul a1 g))) (mul a1 a1)

norm_same : (g a0 a1 : ℕ) → norm_of g a0 a1 ≡ norm g a0 a1
norm_same g a0 a1 = identity (g ∷ a0 ∷ a1 ∷ []) (search field_terms depth 60 fits 20000) refl

norm_not_zero_of : (i a : ℕ) → a < 2 ^ (2 ^ suc i) → a ≢ 0 → norm_of (generator i) (low i a) (high i a) ≢ 0
norm_not_zero_of i a h ne e =
    let both = norm_not_zero i (inverses i) (low i a) (high i a) (low_lt i a) (high_lt i a) (sym (norm_same (generator i) (low i a) (high i a)) ∙ e) in
    let j = join_halves i a h in
    let z : 0 * 2 ^ (2 ^ i) + 0 ≡ 0 = omega arith in
    ne (sym j ∙ (λ k. join i (both.1 k) (both.0 k)) ∙ z)

shared : (n c a1 x : ℕ) → bit_xor (mul n c) (mul (mul n a1) x) ≡ mul n (bit_xor c (mul a1 x))
shared n c a1 x = identity (n ∷ c ∷ a1 ∷ x ∷ []) (search field_terms depth 60 fits 20000) refl

inverse_by_norm : (i a n : ℕ) → a < 2 ^ (2 ^ suc i) → n < 2 ^ (2 ^ i) → mul (norm_of (generator i) (low i a) (high i a)) n ≡ 1
    → mul a (join i (mul n (high i a)) (mul n (bit_xor (low i a) (mul (high i a) (generator i))))) ≡ 1
inverse_by_norm i a n h k e =
    let s = split i a h in
    let g = generator i in
    let hc : mul n (bit_xor (low i a) (mul (high i a) (generator i))) < 2 ^ (2 ^ i) =
    mul_lt i n _ k (xor_lt (2 ^ i) _ _ (low_lt i a) (mul_lt i (high i a) (generator i) (high_lt i a) (generator_lt i))) in
    let hn = mul_lt i n (high i a) k (high_lt i a) in
    let j = as_join i (mul n (high i a)) (mul n (bit_xor (low i a) (mul (high i a) (generator i)))) hn hc in
    let m = shared n (bit_xor (low i a) (mul (high i a) (generator i))) (high i a) (2 ^ (2 ^ i)) in
    let w = product_with (generator i) (2 ^ (2 ^ i)) (low i a) (high i a) n (gen_square i) (ap (λ v. mul v n) (sym (norm_same (generator i) (low i a) (high i a))) ∙ e) in
    ap (mul a) (sym j ∙ m) ∙ ap (λ v. mul v (mul n (bit_xor (bit_xor (low i a) (mul (high i a) (generator i))) (mul (high i a) (2 ^ (2 ^ i)))))) s ∙ w

zero_up : (i n : ℕ) → join i (mul n (high i 0)) (mul n (bit_xor (low i 0) (mul (high i 0) (generator i)))) ≡ inverse 0
zero_up i n =
    let l : low i 0 ≡ 0 = zero-mod (2 ^ (2 ^ i)) in
    let h : high i 0 ≡ 0 = ap (λ w. w % 2 ^ (2 ^ i)) (zero-div (2 ^ (2 ^ i))) ∙ zero-mod (2 ^ (2 ^ i)) in
    let z : mul n 0 ≡ 0 = field_comm n 0 ∙ field_zero n in
    let c : bit_xor 0 (mul 0 (generator i)) ≡ 0 = ap (bit_xor 0) (field_zero (generator i)) in
    let j : 0 * 2 ^ (2 ^ i) + 0 ≡ 0 = omega arith in
    (λ k. join i (mul n (h k)) (mul n (bit_xor (l k) (mul (h k) (generator i)))))
    ∙ (λ k. join i (z k) (mul n (c k))) ∙ ap (join i 0) z ∙ j ∙ sym inverse_zero

-- the inverse r of a from that of the norm
pub inverse_up : (i a carried n r : ℕ) → a < 2 ^ (2 ^ suc i) → carried ≡ bit_xor (low i a) (mul (high i a) (generator i))
    → n ≡ inverse (bit_xor (mul (low i a) carried) (mul (high i a) (high i a)))
    → r ≡ join i (mul n (high i a)) (mul n carried) → r ≡ inverse a
inverse_up i zero carried n r h ec en er = er ∙ ap (λ w. join i (mul n (high i 0)) (mul n w)) ec ∙ zero_up i n
inverse_up i (suc a) carried n r h ec en er =
    let ne : suc a ≢ 0 = λ (p : suc a ≡ 0). absurd (omega arith) in
    let v : ℕ = norm_of (generator i) (low i (suc a)) (high i (suc a)) in
    let en' : n ≡ inverse (norm_of (generator i) (low i (suc a)) (high i (suc a))) =
    en ∙ ap (λ w. inverse (bit_xor (mul (low i (suc a)) w) (mul (high i (suc a)) (high i (suc a))))) ec in
    let vt : norm_of (generator i) (low i (suc a)) (high i (suc a)) < 2 ^ (2 ^ i) =
    subst (λ w. w < 2 ^ (2 ^ i)) (sym (norm_same (generator i) (low i (suc a)) (high i (suc a)))) (norm_lt i (low i (suc a)) (high i (suc a)) (low_lt i (suc a)) (high_lt i (suc a))) in
    let nt : n < 2 ^ (2 ^ i) = subst (λ w. w < 2 ^ (2 ^ i)) (sym en') (inverse_lt i v vt) in
    let one : mul v n ≡ 1 = ap (mul v) en' ∙ times_inverse v (norm_not_zero_of i (suc a) h ne) in
    er ∙ ap (λ w. join i (mul n (high i (suc a))) (mul n w)) ec ∙ inverse_unique (suc a) _ (inverse_by_norm i (suc a) n h nt one)
