-- What the tables of powers and exponents hold.
use Rattle.std.proofs.Common.{◌≡◌, ℕ, zero, suc, ◌+◌, ◌-◌, ◌<◌, ◌≤◌, ltb, true, false, List, [], ◌∷◌, map, take, drop, get_or, refl, sym, ◌∙◌, ap, arith, inl, inr, lit<, zero-add}
use Rattle.std.proofs.Math.Nat.{eq-zero-or-pos}
use Rattle.std.proofs.lemmas.Bool.{ltb-true}
use Rattle.std.specs.List.{range_with_len}
use Rattle.std.specs.Prelude.{replicate}
use Rattle.std.proofs.lemmas.List.{get_or-take, get_or-drop}
use Rattle.std.proofs.lemmas.Simd.{get_or-replicate}
use Rattle.std.proofs.lemmas.List.FromFn.{get_or-map-range_with_len, get_or-range_with_len}
use Rattle.tower_laws.specs.Tower.{mul, product, generator}
use Rattle.tower_laws.proofs.Levels.{product_mul, product_lt, field_one, field_comm, field_zero, field_assoc}
use Rattle.tower_field.specs.declared.byte.TheConstants.{EXPONENTS, POWERS}

power : ℕ → ℕ
power zero = 1
power (suc n) = mul 19 (power n)

power-add : (i j : ℕ) → power (i + j) ≡ mul (power i) (power j)
unfolding power
power-add zero j = ap power (zero-add j) ∙ sym (field_one (power j))
power-add (suc i) j = let e : suc i + j ≡ suc (i + j) = omega arith in ap power e ∙ ap (mul 19) (power-add i j) ∙ sym (field_assoc 19 (power i) (power j))

-- x and its products with 19, 19^2 and so on
abbrev products_of : ℕ → ℕ → List ℕ
products_of x zero = []
products_of x (suc n) = x ∷ products_of (product 3 19 x) n

product_at : (n k x : ℕ) → k < n → x < 256 → get_or (products_of x n) k 0 ≡ mul (power k) x
unfolding power
product_at zero k x h l = absurd (omega arith)
product_at (suc n) zero x h l = sym (field_one x)
product_at (suc n) (suc k) x h l =
    product_at n k (product 3 19 x) (omega arith) (product_lt 3 19 x)
    ∙ ap (mul (power k)) (product_mul 3 19 x (lit< tt) l)
    ∙ sym (field_assoc (power k) 19 x) ∙ ap (λ w. mul w x) (field_comm (power k) 19)

low_powers : take 510 POWERS ≡ products_of 1 510
unfolding product generator
low_powers = refl

no_powers : drop 510 POWERS ≡ replicate 515 0
no_powers = refl

exponents_are : map (λ a. get_or POWERS (get_or EXPONENTS a 0) 0) (range_with_len 0 256) ≡ range_with_len 0 256
exponents_are = refl

exponents_small : map (λ a. ltb (get_or EXPONENTS a 0) 255) (range_with_len 1 255) ≡ replicate 255 true
exponents_small = refl

power_at : (k : ℕ) → k < 510 → get_or POWERS k 0 ≡ power k
power_at k h =
    sym (get_or-take 510 POWERS k 0 h) ∙ ap (λ t. get_or t k 0) low_powers ∙ product_at 510 k 1 h (lit< tt)
    ∙ field_comm (power k) 1 ∙ field_one (power k)

no_power_at : (k : ℕ) → 512 ≤ k → k ≤ 1024 → get_or POWERS k 0 ≡ 0
no_power_at k l h =
    let e : 510 + (k - 510) ≡ k = omega arith in
    ap (λ n. get_or POWERS n 0) (sym e) ∙ sym (get_or-drop 510 POWERS (k - 510) 0) ∙ ap (λ t. get_or t (k - 510) 0) no_powers
    ∙ get_or-replicate 515 (k - 510) 0 0 (omega arith)

exponent_of : (a : ℕ) → a < 256 → get_or POWERS (get_or EXPONENTS a 0) 0 ≡ a
exponent_of a h =
    sym (get_or-map-range_with_len (λ a. get_or POWERS (get_or EXPONENTS a 0) 0) 0 256 a a 0 h (zero-add a))
    ∙ ap (λ t. get_or t a 0) exponents_are ∙ get_or-range_with_len 0 256 a 0 h ∙ zero-add a

exponent_small : (a : ℕ) → 0 < a → a < 256 → get_or EXPONENTS a 0 < 255
exponent_small a p h =
    ltb-true (get_or EXPONENTS a 0) 255
    (sym (get_or-map-range_with_len (λ a. ltb (get_or EXPONENTS a 0) 255) 1 255 (a - 1) a false (omega arith) (omega arith))
    ∙ ap (λ t. get_or t (a - 1) false) exponents_small ∙ get_or-replicate 255 (a - 1) true false (omega arith))

exponent_zero : (a : ℕ) → a ≡ 0 → get_or EXPONENTS a 0 ≡ 512
exponent_zero a e = ap (λ k. get_or EXPONENTS k 0) e

pub exponent_le : (a : ℕ) → a < 256 → get_or EXPONENTS a 0 ≤ 512
exponent_le a h = elim (eq-zero-or-pos a) [ inl e ↦ omega (arith, exponent_zero a e) | inr p ↦ omega (arith, exponent_small a p h) ]

pub byte_is : (a b : ℕ) → a < 256 → b < 256 → get_or POWERS (get_or EXPONENTS a 0 + get_or EXPONENTS b 0) 0 ≡ mul a b
byte_is a b h k =
    elim (eq-zero-or-pos a) [
      | inl e ↦ no_power_at (get_or EXPONENTS a 0 + get_or EXPONENTS b 0) (omega (arith, exponent_zero a e)) (omega (arith, exponent_zero a e, exponent_le b k)) ∙ sym (ap (λ w. mul w b) e ∙ field_zero b)
      | inr p ↦ elim (eq-zero-or-pos b) [
        | inl e ↦ no_power_at (get_or EXPONENTS a 0 + get_or EXPONENTS b 0) (omega (arith, exponent_zero b e)) (omega (arith, exponent_zero b e, exponent_le a h)) ∙ sym (ap (mul a) e ∙ field_comm a 0 ∙ field_zero a)
        | inr q ↦
            let s = exponent_small a p h in
            let t = exponent_small b q k in
            let at = power_at (get_or EXPONENTS a 0 + get_or EXPONENTS b 0) (omega arith) in
            let sum = power-add (get_or EXPONENTS a 0) (get_or EXPONENTS b 0) in
            let pa = power_at (get_or EXPONENTS a 0) (omega arith) in
            let pb = power_at (get_or EXPONENTS b 0) (omega arith) in
            let ea = exponent_of a h in
            let eb = exponent_of b k in
            cc
      ]
    ]
