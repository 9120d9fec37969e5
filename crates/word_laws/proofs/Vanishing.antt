-- The vanishing polynomials.
use Rattle.std.proofs.Common.{◌≡◌, ◌≢◌, ℕ, zero, suc, ◌+◌, ◌*◌, ◌^◌, ◌<◌, [], ◌∷◌, bit_xor, refl, sym, ◌∙◌, ap, subst, arith}
use Rattle.std.specs.Int.Bits.{xor_assoc, xor_shifted}
use Rattle.tower_laws.specs.Tower.{mul}
use Rattle.tower_laws.proofs.Rules.{equal_from}
use Rattle.tower_laws.proofs.Field.{identity, from_one, field_terms}
use Rattle.tower_laws.proofs.Inverses.{zero_product}
use Rattle.tower_laws.proofs.Levels.{field_zero}
use Rattle.word_laws.specs.CodeWord.{vanish, hat}
use Rattle.tower_laws.specs.Inverse.{inverse}
use Rattle.tower_laws.proofs.Inverses.{times_inverse}
use Rattle.cube_laws.specs.Sums.{product_to}
use Rattle.cube_laws.proofs.Weights.{product_to-same}

times_step : (a b c p : ℕ) → p ≡ mul b c → mul a p ≡ mul (mul a b) c
times_step a b c p h = ap (mul a) h ∙ identity (a ∷ b ∷ c ∷ []) (search field_terms depth 60 fits 20000) refl

one_times : (p : ℕ) → p ≡ mul 1 p
one_times p = identity (p ∷ []) (search field_terms depth 60 fits 20000) refl

product_to-add : (m n : ℕ) (f : ℕ → ℕ) → product_to (m + n) f ≡ mul (product_to m f) (product_to n (λ k. f (m + k)))
product_to-add zero n f =
    let e : 0 + n ≡ n = omega arith in
    ap (λ k. product_to k f) e ∙ product_to-same n f (λ k. f (0 + k)) (λ k l. let z : k ≡ 0 + k = omega arith in ap f z) ∙ one_times (product_to n (λ k. f (0 + k)))
product_to-add (suc m) n f =
    let e : suc m + n ≡ suc (m + n) = omega arith in
    ap (λ k. product_to k f) e
    ∙ times_step (f 0) (product_to m (λ k. f (suc k))) (product_to n (λ k. f (suc m + k))) (product_to (m + n) (λ k. f (suc k)))
    (product_to-add m n (λ k. f (suc k)) ∙ ap (mul (product_to m (λ k. f (suc k)))) (product_to-same n (λ k. f (suc (m + k))) (λ k. f (suc m + k)) (λ k l. let z : suc (m + k) ≡ suc m + k = omega arith in ap f z)))

high_place : (i x k : ℕ) → k < 2 ^ i → bit_xor x (2 ^ i + k) ≡ bit_xor (bit_xor x (2 ^ i)) k
high_place i x k h =
    let e : 1 * 2 ^ i ≡ 2 ^ i = omega arith in
    let s : bit_xor (2 ^ i) k ≡ 2 ^ i + k = subst (λ w. bit_xor w k ≡ w + k) e (xor_shifted 1 i k h) in
    sym (ap (bit_xor x) s) ∙ sym (xor_assoc x (2 ^ i) k)

pub vanish-suc : (i x : ℕ) → vanish (suc i) x ≡ mul (vanish i x) (vanish i (bit_xor x (2 ^ i)))
unfolding vanish
vanish-suc i x =
    let e : 2 ^ suc i ≡ 2 ^ i + 2 ^ i = omega arith in
    ap (λ n. product_to n (bit_xor x)) e ∙ product_to-add (2 ^ i) (2 ^ i) (bit_xor x)
    ∙ ap (mul (product_to (2 ^ i) (bit_xor x))) (product_to-same (2 ^ i) (λ k. bit_xor x (2 ^ i + k)) (bit_xor (bit_xor x (2 ^ i))) (high_place i x))

pub vanish_zero : (x : ℕ) → vanish 0 x ≡ x
unfolding vanish
vanish_zero x = identity (x ∷ []) (search field_terms depth 60 fits 20000) refl

square_step : (a b c : ℕ) → mul (bit_xor a b) (bit_xor (bit_xor a b) c) ≡ bit_xor (mul a (bit_xor a c)) (mul b (bit_xor b c))
square_step a b c = identity (a ∷ b ∷ c ∷ []) (search field_terms depth 60 fits 20000) refl

-- the vanishing polynomial is linear over the two numbers 0 and 1
pub vanish-add : (i x y : ℕ) → vanish i (bit_xor x y) ≡ bit_xor (vanish i x) (vanish i y)
vanish-add zero x y = cc (vanish_zero (bit_xor x y), vanish_zero x, vanish_zero y)
vanish-add (suc i) x y =
    cc (
      vanish-suc i (bit_xor x y),
      vanish-suc i x,
      vanish-suc i y,
      vanish-add i x y,
      vanish-add i (bit_xor x y) (2 ^ i),
      vanish-add i x (2 ^ i),
      vanish-add i y (2 ^ i),
      square_step (vanish i x) (vanish i y) (vanish i (2 ^ i)),
    )

pub vanish-step : (i x : ℕ) → vanish (suc i) x ≡ mul (vanish i x) (bit_xor (vanish i x) (vanish i (2 ^ i)))
vanish-step i x = cc (vanish-suc i x, vanish-add i x (2 ^ i))

zero_left : (p : ℕ) → mul 0 p ≡ 0
zero_left p = identity (p ∷ []) (search field_terms depth 60 fits 20000) refl

zero_right : (a : ℕ) → mul a 0 ≡ 0
zero_right a = identity (a ∷ []) (search field_terms depth 60 fits 20000) refl

-- a product with a factor 0 is 0
product_zero : (n u : ℕ) (f : ℕ → ℕ) → u < n → f u ≡ 0 → product_to n f ≡ 0
product_zero zero u f h e = absurd (omega arith)
product_zero (suc n) zero f h e = ap (λ w. mul w (product_to n (λ k. f (suc k)))) e ∙ zero_left (product_to n (λ k. f (suc k)))
product_zero (suc n) (suc u) f h e = ap (mul (f 0)) (product_zero n u (λ k. f (suc k)) (omega arith) e) ∙ zero_right (f 0)

-- and one without is not
product_apart : (n : ℕ) (f : ℕ → ℕ) → ((k : ℕ) → k < n → f k ≢ 0) → product_to n f ≢ 0
product_apart zero f h e = omega arith
product_apart (suc n) f h e =
    product_apart n (λ k. f (suc k)) (λ k l. h (suc k) (omega arith)) (zero_product (f 0) (product_to n (λ k. f (suc k))) e (h 0 (omega arith)))

same_sum : (u : ℕ) → bit_xor u u ≡ 0
same_sum u = identity (u ∷ []) (search field_terms depth 60 fits 20000) refl

pub vanish_below : (i u : ℕ) → u < 2 ^ i → vanish i u ≡ 0
unfolding vanish
vanish_below i u h = product_zero (2 ^ i) u (bit_xor u) h (same_sum u)

pub vanish_apart : (i : ℕ) → vanish i (2 ^ i) ≢ 0
unfolding vanish
vanish_apart i = product_apart (2 ^ i) (bit_xor (2 ^ i)) (λ k l (z : bit_xor (2 ^ i) k ≡ 0). let w = equal_from (2 ^ i) k z in omega arith)

-- ---- and with the value 1 at 2 ^ i
add_step : (a b c : ℕ) → mul (bit_xor a b) c ≡ bit_xor (mul a c) (mul b c)
add_step a b c = identity (a ∷ b ∷ c ∷ []) (search field_terms depth 60 fits 20000) refl

pub hat-add : (i x y : ℕ) → hat i (bit_xor x y) ≡ bit_xor (hat i x) (hat i y)
unfolding hat
hat-add i x y = ap (λ w. mul w (inverse (vanish i (2 ^ i)))) (vanish-add i x y) ∙ add_step (vanish i x) (vanish i y) (inverse (vanish i (2 ^ i)))

pub hat_below : (i u : ℕ) → u < 2 ^ i → hat i u ≡ 0
unfolding hat
hat_below i u h = ap (λ w. mul w (inverse (vanish i (2 ^ i)))) (vanish_below i u h) ∙ field_zero (inverse (vanish i (2 ^ i)))

pub hat_one : (i : ℕ) → hat i (2 ^ i) ≡ 1
unfolding hat
hat_one i = times_inverse (vanish i (2 ^ i)) (vanish_apart i)

pub hat_zero : (x : ℕ) → hat 0 x ≡ x
unfolding hat
hat_zero x =
    let e : vanish 0 (2 ^ 0) ≡ 1 = vanish_zero 1 in
    let k : mul 1 (inverse 1) ≡ 1 = subst (λ w. mul w (inverse w) ≡ 1) e (times_inverse (vanish 0 (2 ^ 0)) (vanish_apart 0)) in
    ap (λ w. mul (vanish 0 x) (inverse w)) e ∙ from_one x k (identity_step (vanish 0 x) x (inverse 1) (vanish_zero x))
  where
    identity_step : (v y n : ℕ) → v ≡ y → bit_xor (mul v n) y ≡ mul y (bit_xor (mul 1 n) 1)
    identity_step v y n h = ap (λ w. bit_xor (mul w n) y) h ∙ identity (y ∷ n ∷ []) (search field_terms depth 60 fits 20000) refl
