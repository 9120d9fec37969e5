-- The laws of the product, by induction over the level, and how each level lies in the next.
use Rattle.std.proofs.Common.{◌≡◌, ℕ, zero, suc, ◌+◌, ◌*◌, ◌/◌, ◌%◌, ◌^◌, ◌<◌, ◌≤◌, List, [], ◌∷◌, Bool, true, false, ltb, max, refl, sym, ◌∙◌, ap, subst, arith}
use Rattle.std.proofs.Math.Nat.{mul_comm, add_comm, pow-le-pow_right, lt_of_lt_of_le, mod-eq_of_lt, div-eq_of_lt, zero-mod, zero-div, zero-add, add-zero, lt_of_le_of_lt, le-max_left, le-max_right, max_comm}
use Rattle.std.proofs.lemmas.Nat.{xor_lt, xor_shr, xor_mod, xor_block, pow_pos, pow-add, shr_high, mod_low, mod_below, shr_split, mul-add-lt, pow_below, div_below}
use Rattle.std.specs.Int.Bits.{bit_xor, xor_zero_r}
use Rattle.tower_laws.specs.Tower.{low, high, join, generator, product, level_from, level, mul}
use Rattle.std.proofs.lemmas.Bool.{ltb-true}
use Rattle.tower_laws.proofs.Ring.{Laws, Units, Read, reads, read_times, ring}

pub size-suc : (i : ℕ) → 2 ^ (2 ^ suc i) ≡ 2 ^ (2 ^ i) * 2 ^ (2 ^ i)
size-suc i = let e : 2 ^ suc i ≡ 2 ^ i + 2 ^ i = omega arith in ap (λ n. 2 ^ n) e ∙ pow-add 2 (2 ^ i) (2 ^ i)

pub size_pos : (i : ℕ) → 0 < 2 ^ (2 ^ i)
size_pos i = pow_pos (2 ^ i)

pub one_lt_size : (i : ℕ) → 1 < 2 ^ (2 ^ i)
one_lt_size i = pow_below 0 (2 ^ i) (pow_pos i)

-- ---- bits
pub bit_case : (P : ℕ → Type 0) → P 0 → P 1 → (n : ℕ) → P (n % 2)
bit_case P p q n = go (n % 2) (mod_below n 2 (omega arith))
  where
    go : (x : ℕ) → x < 2 → P x
    go zero h = p
    go (suc zero) h = q
    go (suc (suc x)) h = absurd (omega arith)

-- ---- halves
pub join_lt : (i b a : ℕ) → b < 2 ^ (2 ^ i) → a < 2 ^ (2 ^ i) → b * 2 ^ (2 ^ i) + a < 2 ^ (2 ^ suc i)
join_lt i b a h k = rw (size-suc i) (mul-add-lt b (2 ^ (2 ^ i)) a (2 ^ (2 ^ i)) h k)

pub low-join : (i b a : ℕ) → a < 2 ^ (2 ^ i) → low i (join i b a) ≡ a
low-join i b a h = mod_low b (2 ^ i) a h

pub high-join : (i b a : ℕ) → b < 2 ^ (2 ^ i) → a < 2 ^ (2 ^ i) → high i (join i b a) ≡ b
high-join i b a h k = rw (shr_high b (2 ^ i) a k) (mod-eq_of_lt h)

pub low_lt : (i a : ℕ) → low i a < 2 ^ (2 ^ i)
low_lt i a = mod_below a (2 ^ (2 ^ i)) (size_pos i)

pub high_lt : (i a : ℕ) → high i a < 2 ^ (2 ^ i)
high_lt i a = mod_below (a / 2 ^ (2 ^ i)) (2 ^ (2 ^ i)) (size_pos i)

pub low-xor : (i a b : ℕ) → low i (bit_xor a b) ≡ bit_xor (low i a) (low i b)
low-xor i a b = xor_mod a b (2 ^ i)

pub high-xor : (i a b : ℕ) → high i (bit_xor a b) ≡ bit_xor (high i a) (high i b)
high-xor i a b = ap (λ w. w % 2 ^ (2 ^ i)) (xor_shr a b (2 ^ i)) ∙ xor_mod (a / 2 ^ (2 ^ i)) (b / 2 ^ (2 ^ i)) (2 ^ i)

pub product_lt : (i a b : ℕ) → product i a b < 2 ^ (2 ^ i)
unfolding product
product_lt zero a b = bit_case (λ x. x * (b % 2) < 2) (omega arith) (omega (arith, mod_below b 2)) a
product_lt (suc i) a b =
    join_lt i _ _
    (xor_lt (2 ^ i) _ _ (xor_lt (2 ^ i) _ _ (product_lt i (low i a) (high i b)) (product_lt i (high i a) (low i b))) (product_lt i (product i (high i a) (high i b)) (generator i)))
    (xor_lt (2 ^ i) _ _ (product_lt i (low i a) (low i b)) (product_lt i (high i a) (high i b)))

-- the halves of a product
abbrev pub low_of : ℕ → ℕ → ℕ → ℕ → ℕ → ℕ
low_of i a0 a1 b0 b1 = bit_xor (product i a0 b0) (product i a1 b1)

abbrev pub high_of : ℕ → ℕ → ℕ → ℕ → ℕ → ℕ
high_of i a0 a1 b0 b1 = bit_xor (bit_xor (product i a0 b1) (product i a1 b0)) (product i (product i a1 b1) (generator i))

low_of_lt : (i a0 a1 b0 b1 : ℕ) → low_of i a0 a1 b0 b1 < 2 ^ (2 ^ i)
low_of_lt i a0 a1 b0 b1 = xor_lt (2 ^ i) _ _ (product_lt i a0 b0) (product_lt i a1 b1)

high_of_lt : (i a0 a1 b0 b1 : ℕ) → high_of i a0 a1 b0 b1 < 2 ^ (2 ^ i)
high_of_lt i a0 a1 b0 b1 = xor_lt (2 ^ i) _ _ (xor_lt (2 ^ i) _ _ (product_lt i a0 b1) (product_lt i a1 b0)) (product_lt i (product i a1 b1) (generator i))

pub low-product : (i a b : ℕ) → low i (product (suc i) a b) ≡ low_of i (low i a) (high i a) (low i b) (high i b)
unfolding product
low-product i a b = low-join i (high_of i (low i a) (high i a) (low i b) (high i b)) (low_of i (low i a) (high i a) (low i b) (high i b)) (low_of_lt i (low i a) (high i a) (low i b) (high i b))

pub high-product : (i a b : ℕ) → high i (product (suc i) a b) ≡ high_of i (low i a) (high i a) (low i b) (high i b)
unfolding product
high-product i a b = high-join i (high_of i (low i a) (high i a) (low i b) (high i b)) (low_of i (low i a) (high i a) (low i b) (high i b)) (high_of_lt i (low i a) (high i a) (low i b) (high i b)) (low_of_lt i (low i a) (high i a) (low i b) (high i b))

pub product-suc : (i a b : ℕ) → product (suc i) a b ≡ join i (high_of i (low i a) (high i a) (low i b) (high i b)) (low_of i (low i a) (high i a) (low i b) (high i b))
unfolding product
product-suc i a b = refl

-- an element of level i + 1 is made of its halves
pub join_halves : (i a : ℕ) → a < 2 ^ (2 ^ suc i) → join i (high i a) (low i a) ≡ a
join_halves i a h =
    let q : a / 2 ^ (2 ^ i) < 2 ^ (2 ^ i) = div_below a (2 ^ (2 ^ i)) (2 ^ (2 ^ i)) (size_pos i) (subst (λ n. a < n) (size-suc i) h) in
    ap (λ w. w * 2 ^ (2 ^ i) + a % 2 ^ (2 ^ i)) (mod-eq_of_lt q) ∙ shr_split a (2 ^ i)

-- zero and the unit
pub product_zero : (i a : ℕ) → product i 0 a ≡ 0
unfolding product
product_zero zero a = omega arith
product_zero (suc i) a = simp (zero-mod, zero-div, product_zero i) (omega arith)

low_one : (i : ℕ) → low i 1 ≡ 1
low_one i = mod-eq_of_lt (one_lt_size i)

high_one : (i : ℕ) → high i 1 ≡ 0
high_one i = ap (λ w. w % 2 ^ (2 ^ i)) (div-eq_of_lt (one_lt_size i)) ∙ zero-mod (2 ^ (2 ^ i))

pub product_one : (i a : ℕ) → a < 2 ^ (2 ^ i) → product i 1 a ≡ a
product_one zero a h = unfold product in omega arith
product_one (suc i) a h =
    product-suc i 1 a ∙ ap (λ w. join i (high_of i w (high i 1) (low i a) (high i a)) (low_of i w (high i 1) (low i a) (high i a))) (low_one i)
    ∙ ap (λ w. join i (high_of i 1 w (low i a) (high i a)) (low_of i 1 w (low i a) (high i a))) (high_one i)
    ∙ simp (product_zero i, xor_zero_r, product_one i (high i a) (high_lt i a), product_one i (low i a) (low_lt i a)) (join_halves i a h)

-- ---- level 0
assoc_bits : (a b c : ℕ) → product 0 (product 0 a b) c ≡ product 0 a (product 0 b c)
unfolding product
assoc_bits a b c =
    bit_case (λ x. (x * (b % 2)) % 2 * (c % 2) ≡ x * ((b % 2 * (c % 2)) % 2))
    (bit_case (λ y. (0 * y) % 2 * (c % 2) ≡ 0 * ((y * (c % 2)) % 2)) (bit_case (λ w. (0 * 0) % 2 * w ≡ 0 * ((0 * w) % 2)) refl refl c) (bit_case (λ w. (0 * 1) % 2 * w ≡ 0 * ((1 * w) % 2)) refl refl c) b)
    (bit_case (λ y. (1 * y) % 2 * (c % 2) ≡ 1 * ((y * (c % 2)) % 2)) (bit_case (λ w. (1 * 0) % 2 * w ≡ 1 * ((0 * w) % 2)) refl refl c) (bit_case (λ w. (1 * 1) % 2 * w ≡ 1 * ((1 * w) % 2)) refl refl c) b)
    a

add_bits : (a b c : ℕ) → product 0 (bit_xor a b) c ≡ bit_xor (product 0 a c) (product 0 b c)
unfolding product
add_bits a b c =
    ap (λ w. w * (c % 2)) (xor_mod a b 1) ∙
    bit_case (λ x. bit_xor x (b % 2) * (c % 2) ≡ bit_xor (x * (c % 2)) (b % 2 * (c % 2)))
    (bit_case (λ y. bit_xor 0 y * (c % 2) ≡ bit_xor (0 * (c % 2)) (y * (c % 2))) (bit_case (λ w. bit_xor 0 0 * w ≡ bit_xor (0 * w) (0 * w)) refl refl c) (bit_case (λ w. bit_xor 0 1 * w ≡ bit_xor (0 * w) (1 * w)) refl refl c) b)
    (bit_case (λ y. bit_xor 1 y * (c % 2) ≡ bit_xor (1 * (c % 2)) (y * (c % 2))) (bit_case (λ w. bit_xor 1 0 * w ≡ bit_xor (1 * w) (0 * w)) refl refl c) (bit_case (λ w. bit_xor 1 1 * w ≡ bit_xor (1 * w) (1 * w)) refl refl c) b)
    a

abbrev pub LevelLaws : ℕ → Type 0
LevelLaws i = Laws (product i)

abbrev pub LevelUnits : ℕ → List ℕ → Type 0
LevelUnits i v = Units (product i) v

abbrev pub level_times : (i : ℕ) (v : List ℕ) (x y : ℕ) → Read (product i) v x → Read (product i) v y → Read (product i) v (product i x y)
level_times i v x y r s = read_times (product i) v x y r s

pub ruleset level_terms = (level_times, reads)

low_comm : (i : ℕ) (L : LevelLaws i) (a0 a1 b0 b1 : ℕ) → LevelUnits i (a0 ∷ a1 ∷ b0 ∷ b1 ∷ []) → low_of i a0 a1 b0 b1 ≡ low_of i b0 b1 a0 a1
low_comm i L a0 a1 b0 b1 h = ring (product i) L (a0 ∷ a1 ∷ b0 ∷ b1 ∷ []) h (search level_terms depth 60 fits 20000) refl

high_comm : (i : ℕ) (L : LevelLaws i) (a0 a1 b0 b1 : ℕ) → LevelUnits i (a0 ∷ a1 ∷ b0 ∷ b1 ∷ generator i ∷ []) → high_of i a0 a1 b0 b1 ≡ high_of i b0 b1 a0 a1
high_comm i L a0 a1 b0 b1 h = ring (product i) L (a0 ∷ a1 ∷ b0 ∷ b1 ∷ generator i ∷ []) h (search level_terms depth 60 fits 20000) refl

low_assoc : (i : ℕ) (L : LevelLaws i) (a0 a1 b0 b1 c0 c1 : ℕ) → LevelUnits i (a0 ∷ a1 ∷ b0 ∷ b1 ∷ c0 ∷ c1 ∷ generator i ∷ [])
    → low_of i (low_of i a0 a1 b0 b1) (high_of i a0 a1 b0 b1) c0 c1 ≡ low_of i a0 a1 (low_of i b0 b1 c0 c1) (high_of i b0 b1 c0 c1)
low_assoc i L a0 a1 b0 b1 c0 c1 h = ring (product i) L (a0 ∷ a1 ∷ b0 ∷ b1 ∷ c0 ∷ c1 ∷ generator i ∷ []) h (search level_terms depth 60 fits 20000) refl

high_assoc : (i : ℕ) (L : LevelLaws i) (a0 a1 b0 b1 c0 c1 : ℕ) → LevelUnits i (a0 ∷ a1 ∷ b0 ∷ b1 ∷ c0 ∷ c1 ∷ generator i ∷ [])
    → high_of i (low_of i a0 a1 b0 b1) (high_of i a0 a1 b0 b1) c0 c1 ≡ high_of i a0 a1 (low_of i b0 b1 c0 c1) (high_of i b0 b1 c0 c1)
high_assoc i L a0 a1 b0 b1 c0 c1 h = ring (product i) L (a0 ∷ a1 ∷ b0 ∷ b1 ∷ c0 ∷ c1 ∷ generator i ∷ []) h (search level_terms depth 60 fits 20000) refl

low_add : (i : ℕ) (L : LevelLaws i) (a0 a1 b0 b1 c0 c1 : ℕ) → LevelUnits i (a0 ∷ a1 ∷ b0 ∷ b1 ∷ c0 ∷ c1 ∷ [])
    → low_of i (bit_xor a0 b0) (bit_xor a1 b1) c0 c1 ≡ bit_xor (low_of i a0 a1 c0 c1) (low_of i b0 b1 c0 c1)
low_add i L a0 a1 b0 b1 c0 c1 h = ring (product i) L (a0 ∷ a1 ∷ b0 ∷ b1 ∷ c0 ∷ c1 ∷ []) h (search level_terms depth 60 fits 20000) refl

high_add : (i : ℕ) (L : LevelLaws i) (a0 a1 b0 b1 c0 c1 : ℕ) → LevelUnits i (a0 ∷ a1 ∷ b0 ∷ b1 ∷ c0 ∷ c1 ∷ generator i ∷ [])
    → high_of i (bit_xor a0 b0) (bit_xor a1 b1) c0 c1 ≡ bit_xor (high_of i a0 a1 c0 c1) (high_of i b0 b1 c0 c1)
high_add i L a0 a1 b0 b1 c0 c1 h = ring (product i) L (a0 ∷ a1 ∷ b0 ∷ b1 ∷ c0 ∷ c1 ∷ generator i ∷ []) h (search level_terms depth 60 fits 20000) refl

-- ---- the laws, a level up
pub generator_lt : (i : ℕ) → generator i < 2 ^ (2 ^ i)
unfolding generator
generator_lt zero = omega arith
generator_lt (suc i) = pow_below (2 ^ i) (2 ^ suc i) (pow_below i (suc i) (omega arith))

low_unit : (i a : ℕ) → product i 1 (low i a) ≡ low i a
low_unit i a = product_one i (low i a) (low_lt i a)

high_unit : (i a : ℕ) → product i 1 (high i a) ≡ high i a
high_unit i a = product_one i (high i a) (high_lt i a)

generator_unit : (i : ℕ) → product i 1 (generator i) ≡ generator i
generator_unit i = product_one i (generator i) (generator_lt i)

comm_step : (i : ℕ) (L : LevelLaws i) (a b : ℕ) → product (suc i) a b ≡ product (suc i) b a
comm_step i L a b =
    let l = low_comm i L (low i a) (high i a) (low i b) (high i b) (low_unit i a, (high_unit i a, (low_unit i b, (high_unit i b, tt)))) in
    let h = high_comm i L (low i a) (high i a) (low i b) (high i b) (low_unit i a, (high_unit i a, (low_unit i b, (high_unit i b, (generator_unit i, tt))))) in
    product-suc i a b ∙ (λ j. join i (h j) (l j)) ∙ sym (product-suc i b a)

assoc_step : (i : ℕ) (L : LevelLaws i) (a b c : ℕ) → product (suc i) (product (suc i) a b) c ≡ product (suc i) a (product (suc i) b c)
assoc_step i L a b c =
    let u : LevelUnits i (low i a ∷ high i a ∷ low i b ∷ high i b ∷ low i c ∷ high i c ∷ generator i ∷ []) = (low_unit i a, (high_unit i a, (low_unit i b, (high_unit i b, (low_unit i c, (high_unit i c, (generator_unit i, tt))))))) in
    let l = low_assoc i L (low i a) (high i a) (low i b) (high i b) (low i c) (high i c) u in
    let h = high_assoc i L (low i a) (high i a) (low i b) (high i b) (low i c) (high i c) u in
    cc (product-suc i (product (suc i) a b) c, product-suc i a (product (suc i) b c), low-product i a b, high-product i a b, low-product i b c, high-product i b c, l, h)

add_step : (i : ℕ) (L : LevelLaws i) (a b c : ℕ) → product (suc i) (bit_xor a b) c ≡ bit_xor (product (suc i) a c) (product (suc i) b c)
add_step i L a b c =
    let u : LevelUnits i (low i a ∷ high i a ∷ low i b ∷ high i b ∷ low i c ∷ high i c ∷ generator i ∷ []) = (low_unit i a, (high_unit i a, (low_unit i b, (high_unit i b, (low_unit i c, (high_unit i c, (generator_unit i, tt))))))) in
    let l = low_add i L (low i a) (high i a) (low i b) (high i b) (low i c) (high i c) (low_unit i a, (high_unit i a, (low_unit i b, (high_unit i b, (low_unit i c, (high_unit i c, tt)))))) in
    let h = high_add i L (low i a) (high i a) (low i b) (high i b) (low i c) (high i c) u in
    let x = xor_block (2 ^ i) (high_of i (low i a) (high i a) (low i c) (high i c)) (high_of i (low i b) (high i b) (low i c) (high i c)) (low_of i (low i a) (high i a) (low i c) (high i c)) (low_of i (low i b) (high i b) (low i c) (high i c)) (low_of_lt i (low i a) (high i a) (low i c) (high i c)) (low_of_lt i (low i b) (high i b) (low i c) (high i c)) in
    cc (product-suc i (bit_xor a b) c, product-suc i a c, product-suc i b c, low-xor i a b, high-xor i a b, l, h, x)

bits_comm : (a b : ℕ) → product 0 a b ≡ product 0 b a
unfolding product
bits_comm a b = mul_comm (a % 2) (b % 2)

pub laws : (i : ℕ) → LevelLaws i
laws zero = record { mul_comm = bits_comm; mul_assoc = assoc_bits; mul_zero = product_zero 0; mul_xor = add_bits; one_one = product_one 0 1 (one_lt_size 0) }
laws (suc i) = let L = laws i in record { mul_comm = comm_step i L; mul_assoc = assoc_step i L; mul_zero = product_zero (suc i); mul_xor = add_step i L; one_one = product_one (suc i) 1 (one_lt_size (suc i)) }

-- ---- the next level agrees
pub size_lt : (i : ℕ) → 2 ^ (2 ^ i) < 2 ^ (2 ^ suc i)
size_lt i = pow_below (2 ^ i) (2 ^ suc i) (pow_below i (suc i) (omega arith))

pub high_small : (i a : ℕ) → a < 2 ^ (2 ^ i) → high i a ≡ 0
high_small i a h = ap (λ w. w % 2 ^ (2 ^ i)) (div-eq_of_lt h) ∙ zero-mod (2 ^ (2 ^ i))

pub product_zero_r : (i a : ℕ) → product i a 0 ≡ 0
product_zero_r i a = (laws i).mul_comm a 0 ∙ product_zero i a

pub product_up : (i a b : ℕ) → a < 2 ^ (2 ^ i) → b < 2 ^ (2 ^ i) → product (suc i) a b ≡ product i a b
product_up i a b h k =
    rw (product-suc i a b, high_small i a h, high_small i b k, mod-eq_of_lt h, mod-eq_of_lt k)
    (simp (product_zero, product_zero_r, xor_zero_r) (omega arith))

pub size_mono : (i j a : ℕ) → i ≤ j → a < 2 ^ (2 ^ i) → a < 2 ^ (2 ^ j)
size_mono i j a h k = lt_of_lt_of_le k (pow-le-pow_right {n = 2} (omega arith) (pow-le-pow_right {n = 2} (omega arith) h))

product_up_by : (k i a b : ℕ) → a < 2 ^ (2 ^ i) → b < 2 ^ (2 ^ i) → product (k + i) a b ≡ product i a b
product_up_by zero i a b h g = ap (λ w. product w a b) (zero-add i)
product_up_by (suc k) i a b h g =
    let e : suc k + i ≡ suc (k + i) = omega arith in
    let le : i ≤ k + i = omega arith in
    ap (λ w. product w a b) e ∙ product_up (k + i) a b (size_mono i (k + i) a le h) (size_mono i (k + i) b le g) ∙ product_up_by k i a b h g

pub product_levels : (i j a b : ℕ) → a < 2 ^ (2 ^ i) → b < 2 ^ (2 ^ i) → a < 2 ^ (2 ^ j) → b < 2 ^ (2 ^ j) → product i a b ≡ product j a b
product_levels i j a b h g h' g' = sym (product_up_by j i a b h g) ∙ ap (λ w. product w a b) (add_comm j i) ∙ product_up_by i j a b h' g'

lt_pow : (n : ℕ) → n < 2 ^ n
lt_pow zero = omega arith
lt_pow (suc n) = let h = lt_pow n in omega arith

pub lt_size : (n : ℕ) → n < 2 ^ (2 ^ n)
lt_size n = let h = lt_pow n in let k = lt_pow (2 ^ n) in omega arith

level_from_lt : (d i n : ℕ) → n < 2 ^ (2 ^ (d + i)) → n < 2 ^ (2 ^ level_from d i n)
unfolding level_from
level_from_lt zero i n h = subst (λ w. n < 2 ^ (2 ^ w)) (zero-add i) h
level_from_lt (suc d) i n h = let e : suc d + i ≡ d + suc i = omega arith in go (level_from_lt d (suc i) n (subst (λ w. n < 2 ^ (2 ^ w)) e h)) (ltb n (2 ^ (2 ^ i))) refl
  where
    go : n < 2 ^ (2 ^ level_from d (suc i) n) → (b : Bool) → ltb n (2 ^ (2 ^ i)) ≡ b → n < 2 ^ (2 ^ (elim b as (λ _. ℕ) [ true ↦ i | false ↦ level_from d (suc i) n ]))
    go rest true e = ltb-true n (2 ^ (2 ^ i)) e
    go rest false e = rest

pub level_lt : (n : ℕ) → n < 2 ^ (2 ^ level n)
unfolding level
level_lt n = level_from_lt n 0 n (subst (λ w. n < 2 ^ (2 ^ w)) (sym (add-zero n)) (lt_size n))

pub product_mul : (i a b : ℕ) → a < 2 ^ (2 ^ i) → b < 2 ^ (2 ^ i) → product i a b ≡ mul a b
unfolding mul
product_mul i a b h k =
    let p = level_lt (max a b) in
    product_levels i (level (max a b)) a b h k (lt_of_le_of_lt (le-max_left a b) p) (lt_of_le_of_lt (le-max_right a b) p)

pub mul_lt : (i a b : ℕ) → a < 2 ^ (2 ^ i) → b < 2 ^ (2 ^ i) → mul a b < 2 ^ (2 ^ i)
mul_lt i a b h k = subst (λ w. w < 2 ^ (2 ^ i)) (product_mul i a b h k) (product_lt i a b)

-- ---- the laws of the union, with no bounds
pub field_comm : (a b : ℕ) → mul a b ≡ mul b a
unfolding mul
field_comm a b = (laws (level (max a b))).mul_comm a b ∙ ap (λ w. product (level w) b a) (max_comm a b)

pub field_one : (a : ℕ) → mul 1 a ≡ a
field_one a = sym (product_mul a 1 a (one_lt_size a) (lt_size a)) ∙ product_one a a (lt_size a)

pub field_zero : (a : ℕ) → mul 0 a ≡ 0
unfolding mul
field_zero a = product_zero (level (max 0 a)) a

in_sum3 : (a b c : ℕ) → (a < 2 ^ (2 ^ (a + b + c))) × (b < 2 ^ (2 ^ (a + b + c))) × (c < 2 ^ (2 ^ (a + b + c)))
in_sum3 a b c = (size_mono a (a + b + c) a (omega arith) (lt_size a), size_mono b (a + b + c) b (omega arith) (lt_size b), size_mono c (a + b + c) c (omega arith) (lt_size c))

pub field_assoc : (a b c : ℕ) → mul (mul a b) c ≡ mul a (mul b c)
field_assoc a b c =
    let n = a + b + c in let h = in_sum3 a b c in
    cc (product_mul n a b h.0 h.1, product_mul n b c h.1 h.2, product_mul n (product n a b) c (product_lt n a b) h.2, product_mul n a (product n b c) h.0 (product_lt n b c), (laws n).mul_assoc a b c)

pub field_add : (a b c : ℕ) → mul (bit_xor a b) c ≡ bit_xor (mul a c) (mul b c)
field_add a b c =
    let n = a + b + c in let h = in_sum3 a b c in
    cc (product_mul n (bit_xor a b) c (xor_lt (2 ^ n) a b h.0 h.1) h.2, product_mul n a c h.0 h.2, product_mul n b c h.1 h.2, (laws n).mul_xor a b c)

pub field_laws : Laws mul
field_laws = record { mul_comm = field_comm; mul_assoc = field_assoc; mul_zero = field_zero; mul_xor = field_add; one_one = field_one 1 }
