-- The last generators, and the equations over them that have no root.
use Rattle.std.proofs.Common.{◌≡◌, ℕ, zero, suc, ◌+◌, ◌*◌, ◌%◌, ◌^◌, ◌<◌, [], ◌∷◌, refl, sym, ◌∙◌, ap, subst, arith}
use Rattle.std.proofs.Math.Nat.{mod-eq_of_lt, add-zero, mod_self, div_self, lt_trans}
use Rattle.std.proofs.lemmas.Nat.{xor_comm, xor_lt, same_from_place}
use Rattle.std.specs.Int.Bits.{bit_xor, xor_zero_l, xor_zero_r, xor_shifted}
use Rattle.tower_laws.specs.Tower.{mul, product, generator, low, high}
use Rattle.tower_laws.proofs.Levels.{field_one, field_zero, product_mul, product-suc, product_one, product_zero, low_lt, high_lt, join_halves, laws, size_pos, one_lt_size, size_lt, generator_lt, high_small, product_zero_r, mul_lt}
use Rattle.tower_laws.proofs.Rules.{equal_from}
use Rattle.tower_laws.proofs.Field.{field_terms, identity, from_one}

-- the generator of level i + 1
abbrev gen : ℕ → ℕ
gen i = 2 ^ (2 ^ i)

pub gen_is : (i : ℕ) → generator (suc i) ≡ 2 ^ (2 ^ i)
unfolding generator
gen_is i = refl

gen_lt : (i : ℕ) → 2 ^ (2 ^ i) < 2 ^ (2 ^ suc i)
gen_lt i = size_lt i

low_gen : (i : ℕ) → low i (2 ^ (2 ^ i)) ≡ 0
low_gen i = mod_self (2 ^ (2 ^ i))

high_gen : (i : ℕ) → high i (2 ^ (2 ^ i)) ≡ 1
high_gen i = ap (λ w. w % 2 ^ (2 ^ i)) (div_self (size_pos i)) ∙ mod-eq_of_lt (one_lt_size i)

mul_gen : (i b : ℕ) → b < 2 ^ (2 ^ i) → mul b (2 ^ (2 ^ i)) ≡ b * 2 ^ (2 ^ i)
mul_gen i b h =
    let e : product i b 1 ≡ b = (laws i).mul_comm b 1 ∙ product_one i b h in
    sym (product_mul (suc i) b (2 ^ (2 ^ i)) (lt_trans h (size_lt i)) (size_lt i)) ∙
    rw (product-suc i b (2 ^ (2 ^ i)), high_small i b h, mod-eq_of_lt h, low_gen i, high_gen i) (simp (e, product_zero, product_zero_r, xor_zero_r, add-zero))

one_one : (i : ℕ) → product i 1 1 ≡ 1
one_one i = product_one i 1 (one_lt_size i)

pub gen_square : (i : ℕ) → mul (2 ^ (2 ^ i)) (2 ^ (2 ^ i)) ≡ bit_xor 1 (mul (generator i) (2 ^ (2 ^ i)))
gen_square i =
    sym (product_mul (suc i) (2 ^ (2 ^ i)) (2 ^ (2 ^ i)) (size_lt i) (size_lt i)) ∙ halves
    ∙ sym (xor_shifted (generator i) (2 ^ i) 1 (one_lt_size i)) ∙ ap (λ w. bit_xor w 1) (sym (mul_gen i (generator i) (generator_lt i))) ∙ xor_comm (mul (generator i) (2 ^ (2 ^ i))) 1
  where
    halves : product (suc i) (2 ^ (2 ^ i)) (2 ^ (2 ^ i)) ≡ generator i * 2 ^ (2 ^ i) + 1
    halves = rw (product-suc i (2 ^ (2 ^ i)) (2 ^ (2 ^ i)), low_gen i, high_gen i) (simp (product_zero, product_zero_r, one_one, product_one i (generator i) (generator_lt i), xor_zero_l))

-- an element of level i + 1 by its halves
pub split : (i y : ℕ) → y < 2 ^ (2 ^ suc i) → y ≡ bit_xor (low i y) (mul (high i y) (2 ^ (2 ^ i)))
split i y h =
    sym (join_halves i y h) ∙ sym (xor_shifted (high i y) (2 ^ i) (low i y) (low_lt i y))
    ∙ ap (λ w. bit_xor w (low i y)) (sym (mul_gen i (high i y) (high_lt i y))) ∙ xor_comm (mul (high i y) (2 ^ (2 ^ i))) (low i y)

pub as_join : (i b a : ℕ) → b < 2 ^ (2 ^ i) → a < 2 ^ (2 ^ i) → bit_xor a (mul b (2 ^ (2 ^ i))) ≡ b * 2 ^ (2 ^ i) + a
as_join i b a h k = xor_comm a (mul b (2 ^ (2 ^ i))) ∙ ap (λ w. bit_xor w a) (mul_gen i b h) ∙ xor_shifted b (2 ^ i) a k

-- and its halves are unique
pub same_halves : (i a b c d : ℕ) → a < 2 ^ (2 ^ i) → b < 2 ^ (2 ^ i) → c < 2 ^ (2 ^ i) → d < 2 ^ (2 ^ i)
    → bit_xor a (mul b (2 ^ (2 ^ i))) ≡ bit_xor c (mul d (2 ^ (2 ^ i))) → (a ≡ c) × (b ≡ d)
same_halves i a b c d ha hb hc hd e =
    let s = same_from_place b a d c (2 ^ (2 ^ i)) ha hc (sym (as_join i b a hb ha) ∙ e ∙ as_join i d c hd hc) in (s.1, s.0)

-- ---- y * y + y is never the last generator
expand : (y0 y1 g x : ℕ) → mul x x ≡ bit_xor 1 (mul g x)
    → bit_xor (mul (bit_xor y0 (mul y1 x)) (bit_xor y0 (mul y1 x))) (bit_xor y0 (mul y1 x))
    ≡ bit_xor (bit_xor (mul y0 y0) (bit_xor (mul y1 y1) y0)) (mul (bit_xor (mul g (mul y1 y1)) y1) x)
expand y0 y1 g x h = from_one (mul y1 y1) h (identity (y0 ∷ y1 ∷ g ∷ x ∷ []) (search field_terms depth 60 fits 20000) refl)

scale : (y1 g : ℕ) → bit_xor (mul g (mul y1 y1)) y1 ≡ 1 → bit_xor (mul (mul g y1) (mul g y1)) (mul g y1) ≡ g
scale y1 g h = from_one g h (identity (y1 ∷ g ∷ []) (search field_terms depth 60 fits 20000) refl)

one_gen : (x : ℕ) → x ≡ bit_xor 0 (mul 1 x)
one_gen x = identity (x ∷ []) (search field_terms depth 60 fits 20000) refl

no_root_step : (i : ℕ) → ((w : ℕ) → w < 2 ^ (2 ^ i) → bit_xor (mul w w) w ≡ generator i → ⊥)
    → (y : ℕ) → y < 2 ^ (2 ^ suc i) → bit_xor (mul y y) y ≡ 2 ^ (2 ^ i) → ⊥
no_root_step i ih y h e = go (low i y) (high i y) (low_lt i y) (high_lt i y) (split i y h)
  where
    go : (y0 y1 : ℕ) → y0 < 2 ^ (2 ^ i) → y1 < 2 ^ (2 ^ i) → y ≡ bit_xor y0 (mul y1 (2 ^ (2 ^ i))) → ⊥
    go y0 y1 h0 h1 s =
        let e' : bit_xor (mul (bit_xor y0 (mul y1 (2 ^ (2 ^ i)))) (bit_xor y0 (mul y1 (2 ^ (2 ^ i))))) (bit_xor y0 (mul y1 (2 ^ (2 ^ i)))) ≡ 2 ^ (2 ^ i) = rw (← s) e in
        let halves = same_halves i (bit_xor (mul y0 y0) (bit_xor (mul y1 y1) y0)) (bit_xor (mul (generator i) (mul y1 y1)) y1) 0 1
        (xor_lt (2 ^ i) _ _ (mul_lt i y0 y0 h0 h0) (xor_lt (2 ^ i) _ _ (mul_lt i y1 y1 h1 h1) h0))
        (xor_lt (2 ^ i) _ _ (mul_lt i (generator i) (mul y1 y1) (generator_lt i) (mul_lt i y1 y1 h1 h1)) h1)
        (size_pos i) (one_lt_size i)
        (sym (expand y0 y1 (generator i) (2 ^ (2 ^ i)) (gen_square i)) ∙ e' ∙ one_gen (2 ^ (2 ^ i))) in
        ih (mul (generator i) y1) (mul_lt i (generator i) y1 (generator_lt i) h1) (scale y1 (generator i) halves.1)

apart : (a b : ℕ) → a ≡ b → a ≡ 1 → b ≡ 0 → ⊥
apart a b e p q = omega arith

generator_zero : generator 0 ≡ 1
unfolding generator
generator_zero = refl

pub no_root : (i y : ℕ) → y < 2 ^ (2 ^ i) → bit_xor (mul y y) y ≡ generator i → ⊥
no_root zero zero h e = apart _ _ (sym e) generator_zero (ap (λ w. bit_xor w 0) (field_zero 0))
no_root zero (suc zero) h e = apart _ _ (sym e) generator_zero (ap (λ w. bit_xor w 1) (field_one 1))
no_root zero (suc (suc y)) h e = absurd (omega arith)
no_root (suc i) y h e = no_root_step i (no_root i) y h (e ∙ gen_is i)

-- ---- z * z + g * z + 1 is never 0
square_add : (a b : ℕ) → mul (bit_xor a b) (bit_xor a b) ≡ bit_xor (mul a a) (mul b b)
square_add a b = identity (a ∷ b ∷ []) (search field_terms depth 60 fits 20000) refl

-- from z0 = a (z1^2 + z1) and z0^2 + z1^2 + z1 + 1 = 0 a root of w^2 + w = a
other_root : (a z0 z1 : ℕ) → z0 ≡ mul a (bit_xor (mul z1 z1) z1) → bit_xor (mul z0 z0) (bit_xor (mul z1 z1) (bit_xor z1 1)) ≡ 0
    → bit_xor (mul (bit_xor a (mul a (mul a (bit_xor (mul z1 z1) z1)))) (bit_xor a (mul a (mul a (bit_xor (mul z1 z1) z1))))) (bit_xor a (mul a (mul a (bit_xor (mul z1 z1) z1)))) ≡ a
other_root a z0 z1 p q =
    from_one (mul a a) (rw p at q) (identity (a ∷ z1 ∷ []) (search field_terms depth 60 fits 20000) refl)

-- z^2 + x z + 1 by the halves of z
expand_norm : (z0 z1 g x : ℕ) → mul x x ≡ bit_xor 1 (mul g x)
    → bit_xor (mul (bit_xor z0 (mul z1 x)) (bit_xor z0 (mul z1 x))) (bit_xor (mul x (bit_xor z0 (mul z1 x))) 1)
    ≡ bit_xor (bit_xor (mul z0 z0) (bit_xor (mul z1 z1) (bit_xor z1 1))) (mul (bit_xor z0 (mul g (bit_xor (mul z1 z1) z1))) x)
expand_norm z0 z1 g x h =
    from_one (bit_xor (mul z1 z1) z1) h (identity (z0 ∷ z1 ∷ g ∷ x ∷ []) (search field_terms depth 60 fits 20000) refl)

zero_gen : (x : ℕ) → 0 ≡ bit_xor 0 (mul 0 x)
zero_gen x = identity (x ∷ []) (search field_terms depth 60 fits 20000) refl

no_norm_step : (i : ℕ) (z : ℕ) → z < 2 ^ (2 ^ suc i) → bit_xor (mul z z) (bit_xor (mul (2 ^ (2 ^ i)) z) 1) ≡ 0 → ⊥
no_norm_step i z h e = go (low i z) (high i z) (low_lt i z) (high_lt i z) (split i z h)
  where
    go : (z0 z1 : ℕ) → z0 < 2 ^ (2 ^ i) → z1 < 2 ^ (2 ^ i) → z ≡ bit_xor z0 (mul z1 (2 ^ (2 ^ i))) → ⊥
    go z0 z1 h0 h1 s =
        let e' : bit_xor (mul (bit_xor z0 (mul z1 (2 ^ (2 ^ i)))) (bit_xor z0 (mul z1 (2 ^ (2 ^ i))))) (bit_xor (mul (2 ^ (2 ^ i)) (bit_xor z0 (mul z1 (2 ^ (2 ^ i))))) 1) ≡ 0 = rw (← s) e in
        let g = generator i in
        let t : bit_xor (mul z1 z1) z1 < 2 ^ (2 ^ i) = xor_lt (2 ^ i) _ _ (mul_lt i z1 z1 h1 h1) h1 in
        let gt : mul (generator i) (bit_xor (mul z1 z1) z1) < 2 ^ (2 ^ i) = mul_lt i (generator i) (bit_xor (mul z1 z1) z1) (generator_lt i) t in
        let halves = same_halves i (bit_xor (mul z0 z0) (bit_xor (mul z1 z1) (bit_xor z1 1))) (bit_xor z0 (mul (generator i) (bit_xor (mul z1 z1) z1))) 0 0
        (xor_lt (2 ^ i) _ _ (mul_lt i z0 z0 h0 h0) (xor_lt (2 ^ i) _ _ (mul_lt i z1 z1 h1 h1) (xor_lt (2 ^ i) _ _ h1 (one_lt_size i))))
        (xor_lt (2 ^ i) _ _ h0 gt)
        (size_pos i) (size_pos i)
        (sym (expand_norm z0 z1 (generator i) (2 ^ (2 ^ i)) (gen_square i)) ∙ e' ∙ zero_gen (2 ^ (2 ^ i))) in
        no_root i (bit_xor (generator i) (mul (generator i) (mul (generator i) (bit_xor (mul z1 z1) z1))))
        (xor_lt (2 ^ i) _ _ (generator_lt i) (mul_lt i (generator i) (mul (generator i) (bit_xor (mul z1 z1) z1)) (generator_lt i) gt))
        (other_root (generator i) z0 z1 (equal_from z0 _ halves.1) halves.0)

pub no_norm_root : (i z : ℕ) → z < 2 ^ (2 ^ i) → bit_xor (mul z z) (bit_xor (mul (generator i) z) 1) ≡ 0 → ⊥
no_norm_root zero zero h e = apart _ _ e (rw (field_zero 0, generator_zero, field_one 0)) refl
no_norm_root zero (suc zero) h e = apart _ _ e (rw (generator_zero, field_one 1)) refl
no_norm_root zero (suc (suc z)) h e = absurd (omega arith)
no_norm_root (suc i) z h e = no_norm_step i z h (subst (λ w. bit_xor (mul z z) (bit_xor (mul w z) 1) ≡ 0) (gen_is i) e)
