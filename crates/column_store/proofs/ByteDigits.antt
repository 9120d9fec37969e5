-- The digits of numbers, and of the number that bytes spell.
use Rattle.std.proofs.Common.{◌≡◌, ℕ, zero, suc, ◌+◌, ◌-◌, ◌*◌, ◌/◌, ◌%◌, ◌^◌, ◌<◌, ◌≤◌, List, [], ◌∷◌, length, take, drop, get_or, min, refl, sym, ap, subst, ◌∙◌, inl, inr, arith}
use Rattle.std.proofs.Math.Nat.{pow-zero, pow-suc, pow-le-pow_right, mul-zero, mul_comm, mul_assoc, div-div-eq-div-mul, div-eq_of_lt, div-one, mod-one, zero-div, zero-mod}
use Rattle.std.proofs.lemmas.Nat.{pow_pos, pow-add, shr-shr, mod-pow-add, mod_low, shr_high, field_of, mod_below}
use Rattle.std.proofs.lemmas.List.{get_or_past, get_or-drop, length-drop, take_rest, drop_min, take_min}
use Rattle.std.proofs.lemmas.Bool.{cases_lt}
use Rattle.tower_laws.specs.Digits.{digits}
use Rattle.column_store.specs.Digits.{number_of_bytes}

abbrev pub AreBytes : List ℕ → Type 0
AreBytes bytes = (i : ℕ) → get_or bytes i 0 < 256

-- ---- digits

pub length-digits : (b n x : ℕ) → length (digits b n x) ≡ n
length-digits b zero x = refl
length-digits b (suc n) x = ap suc (length-digits b n (x / b))

pub digit_within : (b n x p : ℕ) → p < n → get_or (digits b n x) p 0 ≡ x / b ^ p % b
digit_within b zero x p h = absurd (omega arith)
digit_within b (suc n) x zero h = ap (λ y. y % b) (sym (ap (λ y. x / y) (pow-zero b) ∙ div-one x))
digit_within b (suc n) x (suc p) h =
    digit_within b n (x / b) p (omega arith)
    ∙ ap (λ y. y % b) (div-div-eq-div-mul x b (b ^ p) ∙ ap (λ y. x / y) (mul_comm b (b ^ p) ∙ sym (pow-suc b p)))

pub no_digit : (b n x p : ℕ) → 0 < b → x < b ^ n → n ≤ p → x / b ^ p % b ≡ 0
no_digit b n x p pos lt le =
    let mono = pow-le-pow_right {n = b} pos {i = n} {j = p} le in
    ap (λ y. y % b) (div-eq_of_lt {n = x} {m = b ^ p} (omega arith)) ∙ zero-mod b

-- a number of n digits has 0 at each later place
pub digit_at : (b n x p : ℕ) → 0 < b → x < b ^ n → get_or (digits b n x) p 0 ≡ x / b ^ p % b
digit_at b n x p pos lt =
    elim (cases_lt p n) [
      | inl h ↦ digit_within b n x p h
      | inr le ↦ get_or_past (digits b n x) p 0 (omega (arith, length-digits b n x)) ∙ sym (no_digit b n x p pos lt le)
    ]

-- ---- the number that bytes spell

pub first : (b : ℕ) (bytes : List ℕ) → AreBytes (b ∷ bytes) → b < 256
first b bytes h = h 0

pub others : (b : ℕ) (bytes : List ℕ) → AreBytes (b ∷ bytes) → AreBytes bytes
others b bytes h i = h (suc i)

as_parts : (b : ℕ) (bytes : List ℕ) → number_of_bytes (b ∷ bytes) ≡ number_of_bytes bytes * 2 ^ 8 + b
as_parts b bytes = omega arith

pub number-drop : (q : ℕ) (bytes : List ℕ) → AreBytes bytes → number_of_bytes bytes / 2 ^ (8 * q) ≡ number_of_bytes (drop q bytes)
number-drop zero bytes h = div-one (number_of_bytes bytes)
number-drop (suc q) [] h = zero-div (2 ^ (8 * suc q))
number-drop (suc q) (b ∷ bytes) h =
    let k : 8 * suc q ≡ 8 + 8 * q = omega arith in
    ap (λ n. number_of_bytes (b ∷ bytes) / 2 ^ n) k
    ∙ sym (shr-shr (number_of_bytes (b ∷ bytes)) 8 (8 * q))
    ∙ ap (λ n. n / 2 ^ 8 / 2 ^ (8 * q)) (as_parts b bytes)
    ∙ ap (λ n. n / 2 ^ (8 * q)) (shr_high (number_of_bytes bytes) 8 b (first b bytes h))
    ∙ number-drop q bytes (others b bytes h)

pub number-take : (k : ℕ) (bytes : List ℕ) → AreBytes bytes → number_of_bytes bytes % 2 ^ (8 * k) ≡ number_of_bytes (take k bytes)
number-take zero bytes h = mod-one (number_of_bytes bytes)
number-take (suc k) [] h = zero-mod (2 ^ (8 * suc k))
number-take (suc k) (b ∷ bytes) h =
    let e : 8 * suc k ≡ 8 * k + 8 = omega arith in
    let n = number_of_bytes (b ∷ bytes) in
    let high : n / 2 ^ 8 ≡ number_of_bytes bytes = ap (λ x. x / 2 ^ 8) (as_parts b bytes) ∙ shr_high (number_of_bytes bytes) 8 b (first b bytes h) in
    let low : n % 2 ^ 8 ≡ b = ap (λ x. x % 2 ^ 8) (as_parts b bytes) ∙ mod_low (number_of_bytes bytes) 8 b (first b bytes h) in
    let split = mod-pow-add n (8 * k) 8 in
    let rest = ap (λ x. x % 2 ^ (8 * k)) high ∙ number-take k bytes (others b bytes h) in
    ap (λ x. n % 2 ^ x) e ∙ split ∙ omega (arith, rest, low)

pub number-lt : (bytes : List ℕ) → AreBytes bytes → number_of_bytes bytes < 2 ^ (8 * length bytes)
number-lt [] h = omega arith
number-lt (b ∷ bytes) h =
    let k : 8 * suc (length bytes) ≡ 8 * length bytes + 8 = omega arith in
    let P : ℕ → Type 0 = λ n. number_of_bytes (b ∷ bytes) < 2 ^ n in
    subst P (sym k) (omega (arith, number-lt bytes (others b bytes h), pow-add 2 (8 * length bytes) 8, first b bytes h))

-- ---- values of whole bytes, and of parts of a byte

-- a number's lowest bits are those of its lowest bits
lowest : (n m k : ℕ) → m ≤ k → n % 2 ^ k % 2 ^ m ≡ n % 2 ^ m
lowest n m k h =
    let j : k ≡ (k - m) + m = omega arith in
    ap (λ x. n % 2 ^ x % 2 ^ m) j ∙ ap (λ x. x % 2 ^ m) (mod-pow-add n (k - m) m) ∙ mod_low (n / 2 ^ m % 2 ^ (k - m)) m (n % 2 ^ m) (mod_below n (2 ^ m) (pow_pos m))

-- bits within the lowest bits
pub within : (n m s w : ℕ) → s + w ≤ m → n / 2 ^ s % 2 ^ w ≡ n % 2 ^ m / 2 ^ s % 2 ^ w
within n m s w h =
    sym (field_of n w s) ∙ ap (λ x. x / 2 ^ s) (sym (lowest n (w + s) m (omega arith))) ∙ field_of (n % 2 ^ m) w s

pub powers : (w p : ℕ) → (2 ^ w) ^ p ≡ 2 ^ (w * p)
powers w zero = pow-zero (2 ^ w) ∙ ap (λ x. 2 ^ x) (sym (mul-zero w))
powers w (suc p) =
    let k : w * suc p ≡ w * p + w = omega arith in
    pow-suc (2 ^ w) p ∙ ap (λ x. x * 2 ^ w) (powers w p) ∙ sym (pow-add 2 (w * p) w) ∙ ap (λ x. 2 ^ x) (sym k)

-- a value of k bytes
pub whole_bytes : (bytes : List ℕ) (k p : ℕ) → AreBytes bytes → number_of_bytes bytes / (2 ^ (8 * k)) ^ p % 2 ^ (8 * k) ≡ number_of_bytes (take k (drop (p * k) bytes))
whole_bytes bytes k p h =
    let e : 8 * k * p ≡ 8 * (p * k) = mul_assoc 8 k p ∙ ap (λ x. 8 * x) (mul_comm k p) in
    let tail : AreBytes (drop (p * k) bytes) = λ i. rw get_or-drop (h (p * k + i)) in
    ap (λ x. number_of_bytes bytes / x % 2 ^ (8 * k)) (powers (8 * k) p ∙ ap (λ x. 2 ^ x) e)
    ∙ ap (λ x. x % 2 ^ (8 * k)) (number-drop (p * k) bytes h)
    ∙ number-take k (drop (p * k) bytes) tail

-- what is left of bytes after a first one is below 2 ^ 120, if they are at most 16
pub number_of_rest : (bytes : List ℕ) (at : ℕ) → AreBytes bytes → length bytes ≤ 16 → 0 < at → number_of_bytes (drop at bytes) < 2 ^ 120
number_of_rest bytes at h few pos =
    let tail : AreBytes (drop at bytes) = λ i. rw get_or-drop (h (at + i)) in
    let mono = pow-le-pow_right {n = 2} (omega arith) {i = 8 * length (drop at bytes)} {j = 120} (omega (arith, length-drop at bytes)) in
    omega (arith, number-lt (drop at bytes) tail, mono)

-- as slices within bounds give a value of whole bytes
pub slices_are : (bytes : List ℕ) (start size a b : ℕ) → a ≡ min start (length bytes) → b ≡ min size (length (take (length bytes - a) (drop a bytes)))
    → take b (take (length bytes - a) (drop a bytes)) ≡ take size (drop start bytes)
slices_are bytes start size a b e f =
    let rest = take (length bytes - a) (drop a bytes) in
    let same : rest ≡ drop start bytes = take_rest bytes a ∙ ap (λ n. drop n bytes) e ∙ drop_min start bytes in
    ap (λ n. take n rest) f ∙ take_min size rest ∙ ap (take size) same
