-- Inverses, by the norm of an element.
use Rattle.std.proofs.Common.{◌≡◌, ℕ, zero, suc, ◌^◌, ◌<◌, ◌≢◌, [], ◌∷◌, refl, ◌∙◌, ap, subst, arith, lt_trans, ◌⊎◌, inl, inr}
use Rattle.std.proofs.lemmas.Nat.{xor_lt}
use Rattle.std.specs.Int.Bits.{bit_xor}
use Rattle.tower_laws.specs.Tower.{mul, generator, low, high, level, level_from}
use Rattle.tower_laws.specs.Inverse.{norm_at, conjugate_at, inverse_at, inverse}
use Rattle.tower_laws.proofs.Levels.{level_lt, low_lt, high_lt, size_pos, size_lt, generator_lt, mul_lt, lt_size, field_zero, field_one}
use Rattle.tower_laws.proofs.Field.{field_terms, identity, from_one, from_two}
use Rattle.tower_laws.proofs.Roots.{split, gen_square, no_norm_root}

abbrev pub norm : ℕ → ℕ → ℕ → ℕ
norm g a0 a1 = bit_xor (mul a0 a0) (bit_xor (mul (mul a0 a1) g) (mul a1 a1))

pub record Inverse (i a : ℕ) : Type 0 where
  pub value : ℕ
  pub within : value < 2 ^ (2 ^ i)
  pub is : mul a value ≡ 1

norm_to_root : (g a0 a1 c : ℕ) → norm g a0 a1 ≡ 0 → mul a1 c ≡ 1 → bit_xor (mul (mul a0 c) (mul a0 c)) (bit_xor (mul g (mul a0 c)) 1) ≡ 0
norm_to_root g a0 a1 c h k =
    from_two (mul c c) (bit_xor (mul g (mul a0 c)) (bit_xor 1 (mul a1 c))) h k
    (identity (g ∷ a0 ∷ a1 ∷ c ∷ []) (search field_terms depth 60 fits 20000) refl)

square_zero : (a c : ℕ) → mul a c ≡ 1 → mul a a ≡ 0 → a ≡ 0
square_zero a c h k = from_two a c h k (identity (a ∷ c ∷ []) (search field_terms depth 60 fits 20000) refl)

norm_low : (g a0 : ℕ) → norm g a0 0 ≡ 0 → mul a0 a0 ≡ 0
norm_low g a0 h = from_one 1 h (identity (g ∷ a0 ∷ []) (search field_terms depth 60 fits 20000) refl)

pub product_with : (g x a0 a1 n : ℕ) → mul x x ≡ bit_xor 1 (mul g x) → mul (norm g a0 a1) n ≡ 1
    → mul (bit_xor a0 (mul a1 x)) (mul n (bit_xor (bit_xor a0 (mul a1 g)) (mul a1 x))) ≡ 1
product_with g x a0 a1 n h k =
    from_two (mul n (mul a1 a1)) 1 h k
    (identity (g ∷ x ∷ a0 ∷ a1 ∷ n ∷ []) (search field_terms depth 60 fits 20000) refl)

pub norm_lt : (i a0 a1 : ℕ) → a0 < 2 ^ (2 ^ i) → a1 < 2 ^ (2 ^ i) → norm (generator i) a0 a1 < 2 ^ (2 ^ i)
norm_lt i a0 a1 h k = xor_lt (2 ^ i) _ _ (mul_lt i a0 a0 h h) (xor_lt (2 ^ i) _ _ (mul_lt i (mul a0 a1) (generator i) (mul_lt i a0 a1 h k) (generator_lt i)) (mul_lt i a1 a1 k k))

-- a norm is 0 only for the pair of zeros
pub norm_not_zero : (i : ℕ) → ((a : ℕ) → a < 2 ^ (2 ^ i) → a ≢ 0 → Inverse i a) → (a0 a1 : ℕ) → a0 < 2 ^ (2 ^ i) → a1 < 2 ^ (2 ^ i) → norm (generator i) a0 a1 ≡ 0 → (a0 ≡ 0) × (a1 ≡ 0)
norm_not_zero i ih zero zero h k e = (refl, refl)
norm_not_zero i ih (suc a0) zero h k e =
    let c = ih (suc a0) h (λ (p : suc a0 ≡ 0). absurd (omega arith)) in
    (square_zero (suc a0) c.value c.is (norm_low (generator i) (suc a0) e), refl)
norm_not_zero i ih a0 (suc a1) h k e =
    let c = ih (suc a1) k (λ (p : suc a1 ≡ 0). absurd (omega arith)) in
    absurd (no_norm_root i (mul a0 c.value) (mul_lt i a0 c.value h c.within) (norm_to_root (generator i) a0 (suc a1) c.value e c.is))

inverse_step : (i : ℕ) → ((a : ℕ) → a < 2 ^ (2 ^ i) → a ≢ 0 → Inverse i a) → (a : ℕ) → a < 2 ^ (2 ^ suc i) → a ≢ 0 → Inverse (suc i) a
inverse_step i ih a h ne = go (low i a) (high i a) (low_lt i a) (high_lt i a) (split i a h)
  where
    go : (a0 a1 : ℕ) → a0 < 2 ^ (2 ^ i) → a1 < 2 ^ (2 ^ i) → a ≡ bit_xor a0 (mul a1 (2 ^ (2 ^ i))) → Inverse (suc i) a
    go a0 a1 h0 h1 s =
        let up0 = lt_trans h0 (size_lt i) in
        let up1 = lt_trans h1 (size_lt i) in
        let c = ih (norm (generator i) a0 a1) (norm_lt i a0 a1 h0 h1) (λ (p : norm (generator i) a0 a1 ≡ 0).
        let both = norm_not_zero i ih a0 a1 h0 h1 p in ne (s ∙ rw (both.0, both.1) (ap (bit_xor 0) (field_zero (2 ^ (2 ^ i)))))) in
        record {
          value = mul c.value (bit_xor (bit_xor a0 (mul a1 (generator i))) (mul a1 (2 ^ (2 ^ i))));
          within = mul_lt (suc i) c.value _ (lt_trans c.within (size_lt i))
              (xor_lt (2 ^ suc i) _ _ (xor_lt (2 ^ suc i) _ _ up0 (mul_lt (suc i) a1 (generator i) up1 (lt_trans (generator_lt i) (size_lt i)))) (mul_lt (suc i) a1 (2 ^ (2 ^ i)) up1 (size_lt i)));
          is = ap (λ w. mul w (mul c.value (bit_xor (bit_xor a0 (mul a1 (generator i))) (mul a1 (2 ^ (2 ^ i)))))) s ∙ (product_with (generator i) (2 ^ (2 ^ i)) a0 a1 c.value (gen_square i) c.is);
        }

pub inverses : (i a : ℕ) → a < 2 ^ (2 ^ i) → a ≢ 0 → Inverse i a
inverses zero zero h ne = absurd (ne refl)
inverses zero (suc zero) h ne = record { value = 1; within = h; is = field_one 1 }
inverses zero (suc (suc a)) h ne = absurd (omega arith)
inverses (suc i) a h ne = inverse_step i (inverses i) a h ne

-- in the union
pub inverse_of : (a : ℕ) → a ≢ 0 → (b : ℕ) × (mul a b ≡ 1)
inverse_of a ne = let c = inverses a a (lt_size a) ne in (c.value, c.is)

pub zero_product : (a b : ℕ) → mul a b ≡ 0 → a ≢ 0 → b ≡ 0
zero_product a b e ne =
    let c = inverse_of a ne in
    from_two c.0 b e c.1 (identity (a ∷ b ∷ c.0 ∷ []) (search field_terms depth 60 fits 20000) refl)

pub record InverseAt (i a : ℕ) : Type 0 where
  pub within : inverse_at i a < 2 ^ (2 ^ i)
  pub is : mul a (inverse_at i a) ≡ 1

inverses_at_zero : (a : ℕ) → a < 2 ^ (2 ^ 0) → a ≢ 0 → InverseAt 0 a
unfolding inverse_at
inverses_at_zero zero h ne = absurd (ne refl)
inverses_at_zero (suc zero) h ne = record { within = h; is = field_one 1 }
inverses_at_zero (suc (suc a)) h ne = absurd (omega arith)

inverses_at_step : (i : ℕ) → ((a : ℕ) → a < 2 ^ (2 ^ i) → a ≢ 0 → InverseAt i a) → (a : ℕ) → a < 2 ^ (2 ^ suc i) → a ≢ 0 → InverseAt (suc i) a
unfolding inverse_at
inverses_at_step i ih a h ne =
    let h0 = low_lt i a in
    let h1 = high_lt i a in
    let s = split i a h in
    let up0 = lt_trans h0 (size_lt i) in
    let up1 = lt_trans h1 (size_lt i) in
    let c = ih (norm_at i a) (norm_lt i (low i a) (high i a) h0 h1) (λ (p : norm_at i a ≡ 0).
    let both = norm_not_zero i (inverses i) (low i a) (high i a) h0 h1 p in ne (s ∙ rw (both.0, both.1) (ap (bit_xor 0) (field_zero (2 ^ (2 ^ i)))))) in
    record {
      within = mul_lt (suc i) (inverse_at i (norm_at i a)) (conjugate_at i a) (lt_trans c.within (size_lt i))
          (xor_lt (2 ^ suc i) _ _ (xor_lt (2 ^ suc i) _ _ up0 (mul_lt (suc i) (high i a) (generator i) up1 (lt_trans (generator_lt i) (size_lt i)))) (mul_lt (suc i) (high i a) (2 ^ (2 ^ i)) up1 (size_lt i)));
      is = ap (λ w. mul w (mul (inverse_at i (norm_at i a)) (conjugate_at i a))) s ∙ product_with (generator i) (2 ^ (2 ^ i)) (low i a) (high i a) (inverse_at i (norm_at i a)) (gen_square i) c.is;
    }

pub inverses_at : (i a : ℕ) → a < 2 ^ (2 ^ i) → a ≢ 0 → InverseAt i a
inverses_at zero a h ne = inverses_at_zero a h ne
inverses_at (suc i) a h ne = inverses_at_step i (inverses_at i) a h ne

pub times_inverse : (a : ℕ) → a ≢ 0 → mul a (inverse a) ≡ 1
unfolding inverse
times_inverse a ne = (inverses_at (level a) a (level_lt a) ne).is

-- ---- what follows from times_inverse
pub inverse_zero : inverse 0 ≡ 0
unfolding inverse inverse_at level level_from
inverse_zero = refl

apart : (n : ℕ) → n ≡ 0 → n ≡ 1 → ⊥
apart n e f = omega arith

pub not_zero : (a b : ℕ) → mul a b ≡ 1 → a ≢ 0
not_zero a b e z = apart (mul a b) (ap (λ w. mul w b) z ∙ field_zero b) e

pub inverse_unique : (a b : ℕ) → mul a b ≡ 1 → b ≡ inverse a
inverse_unique a b e =
    from_two (inverse a) b e (times_inverse a (not_zero a b e)) (identity (a ∷ b ∷ inverse a ∷ []) (search field_terms depth 60 fits 20000) refl)

-- an inverse is an element of the level of its number
pub inverse_lt : (i a : ℕ) → a < 2 ^ (2 ^ i) → inverse a < 2 ^ (2 ^ i)
inverse_lt i zero h = rw inverse_zero (size_pos i)
inverse_lt i (suc a) h =
    let c = inverses_at i (suc a) h (λ (p : suc a ≡ 0). absurd (omega arith)) in
    subst (λ w. w < 2 ^ (2 ^ i)) (inverse_unique (suc a) (inverse_at i (suc a)) c.is) c.within

pub product_zero_cases : (a b : ℕ) → mul a b ≡ 0 → (a ≡ 0) ⊎ (b ≡ 0)
product_zero_cases zero b e = inl refl
product_zero_cases (suc a) b e = inr (zero_product (suc a) b e (λ (p : suc a ≡ 0). absurd (omega arith)))
