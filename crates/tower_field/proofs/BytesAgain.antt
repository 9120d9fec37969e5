-- What is spelled is read again.
use Rattle.std.proofs.Common.{◌≡◌, ◌∙◌, ℕ, zero, suc, ◌+◌, ◌-◌, ◌*◌, ◌/◌, ◌%◌, ◌^◌, ◌<◌, ◌≤◌, ◌⊎◌, inl, inr, List, [], ◌∷◌, length, get_or, refl, sym, ap, arith, add-mul, mul_assoc, mul_comm}
use Rattle.std.proofs.Math.Nat.{pow-suc, div-div-eq-div-mul}
use Rattle.std.proofs.lemmas.Nat.{div-mul-add, pow-add}
use Rattle.std.proofs.lemmas.Bool.{cases_lt}
use Rattle.std.specs.List.{AllByRecursion}
use Rattle.std.specs.Int.{sum_through, byte_worth, byte_at, bytes_low_first, from_le_bytes, to_le_bytes, w128}

-- ---- a number from its bytes
byte_and_rest : (n p : ℕ) → n / p ≡ n / p % 256 + n / (p * 256) * 256
byte_and_rest n p = omega (arith, div-div-eq-div-mul n p 256)

-- the lowest bytes of a number and the rest of it
parts : (n k : ℕ) → sum_through (λ i. byte_worth i (byte_at i n)) k + n / 256 ^ suc k * 256 ^ suc k ≡ n
parts n zero = omega arith
parts n (suc k) =
    let h = parts n k in
    let q = byte_and_rest n (256 ^ suc k) in
    let e = pow-suc 256 (suc k) in
    step (sum_through (λ i. byte_worth i (byte_at i n)) k) n (n / 256 ^ suc k) (256 ^ suc k) (n / 256 ^ suc (suc k)) (256 ^ suc (suc k)) h (rw e q) e
  where
    step : (s n q w r v : ℕ) → s + q * w ≡ n → q ≡ q % 256 + r * 256 → v ≡ w * 256 → s + q % 256 * w + r * v ≡ n
    step s n q w r v h e f = let a = add-mul (q % 256) (r * 256) w in let b = mul_assoc r 256 w in let c = mul_comm 256 w in let k = ap (λ x. x * w) e in let m = ap (λ x. r * x) (f ∙ sym c) in omega arith

pub number_again : (n : ℕ) → n < 2 ^ 128 → from_le_bytes w128 (to_le_bytes w128 n) ≡ n
number_again n fits = let h = parts n 15 in let z : n / 256 ^ 16 ≡ 0 = omega arith in omega arith

-- ---- bytes from their number
abbrev spelled : (ℕ → ℕ) → ℕ → ℕ
spelled f k = sum_through (λ i. byte_worth i (f i)) k

spelled_lt : (f : ℕ → ℕ) → ((i : ℕ) → f i < 256) → (k : ℕ) → spelled f k < 256 ^ suc k
spelled_lt f h zero = let b = h 0 in omega arith
spelled_lt f h (suc k) = let e = pow-suc 256 (suc k) in step (spelled f k) (f (suc k)) (256 ^ suc k) (256 ^ suc (suc k)) (spelled_lt f h k) (h (suc k)) e
  where
    step : (s b p q : ℕ) → s < p → b < 256 → q ≡ p * 256 → s + b * p < q
    step s b p q l m e = let a : b * p ≤ 255 * p = grind arith in omega arith

-- a multiple of the divisor adds to the quotient
add_multiple : (s c d : ℕ) → 0 < d → (s + c * d) / d ≡ s / d + c
add_multiple s c d h =
    let r : s % d < d = omega arith in
    let e : s ≡ s / d * d + s % d = omega arith in
    let w : (s / d + c) * d ≡ s / d * d + c * d = add-mul (s / d) c d in
    let t : s + c * d ≡ (s / d + c) * d + s % d = omega arith in
    ap (λ n. n / d) t ∙ div-mul-add (s / d + c) d (s % d) r

-- a multiple of 256 leaves the lowest byte
same_byte : (q c : ℕ) → (q + c * 256) % 256 ≡ q % 256
same_byte q c = omega arith

at_power : (j n : ℕ) → byte_at j n ≡ n / 256 ^ j % 256
at_power zero n = omega arith
at_power (suc j) n = refl

earlier : (j k s b : ℕ) → j ≤ k → byte_at j (s + b * 256 ^ suc k) ≡ byte_at j s
earlier j k s b l =
    let e : suc k ≡ j + suc (k - j) = omega arith in
    let p : 256 ^ suc k ≡ 256 ^ j * (256 ^ (k - j) * 256) = ap (λ n. 256 ^ n) e ∙ pow-add 256 j (suc (k - j)) ∙ ap (λ w. 256 ^ j * w) (pow-suc 256 (k - j)) in
    at_power j (s + b * 256 ^ suc k)
    ∙ ap (λ w. (s + w) / 256 ^ j % 256) (ap (λ w. b * w) p ∙ turn b (256 ^ j) (256 ^ (k - j)))
    ∙ ap (λ w. w % 256) (add_multiple s (b * 256 ^ (k - j) * 256) (256 ^ j) (pow_pos_256 j))
    ∙ same_byte (s / 256 ^ j) (b * 256 ^ (k - j)) ∙ sym (at_power j s)
  where
    turn : (b p r : ℕ) → b * (p * (r * 256)) ≡ b * r * 256 * p
    turn b p r = grind arith

    pow_pos_256 : (j : ℕ) → 0 < 256 ^ j
    pow_pos_256 zero = omega arith
    pow_pos_256 (suc j) = let h = pow_pos_256 j in let e = pow-suc 256 j in omega arith

byte_is : (f : ℕ → ℕ) → ((i : ℕ) → f i < 256) → (k j : ℕ) → j ≤ k → byte_at j (spelled f k) ≡ f j
byte_is f h zero j l = let z : j ≡ 0 = omega arith in let b = h 0 in ap (λ j. byte_at j (f 0)) z ∙ one (f 0) b ∙ ap f (sym z)
  where
    one : (b : ℕ) → b < 256 → b % 256 ≡ b
    one b m = omega arith
byte_is f h (suc k) j l = go (cases_lt k j) (byte_is f h k j)
  where
    last : (s b p : ℕ) → s < p → b < 256 → (s + b * p) / p % 256 ≡ b
    last s b p m c = let e : s + b * p ≡ b * p + s = omega arith in let r : b % 256 ≡ b = omega arith in ap (λ n. n / p % 256) e ∙ ap (λ n. n % 256) (div-mul-add b p s m) ∙ r

    go : (k < j) ⊎ (j ≤ k) → (j ≤ k → byte_at j (spelled f k) ≡ f j) → byte_at j (spelled f (suc k)) ≡ f j
    go (inl m) r = let e : j ≡ suc k = omega arith in ap (λ j. byte_at j (spelled f (suc k))) e ∙ last (spelled f k) (f (suc k)) (256 ^ suc k) (spelled_lt f h k) (h (suc k)) ∙ ap f (sym e)
    go (inr m) r = earlier j k (spelled f k) (f (suc k)) m ∙ r m

listed : (i k n : ℕ) (bytes : List ℕ) → length bytes ≡ k → ((j : ℕ) → j < k → byte_at (i + j) n ≡ get_or bytes j 0) → bytes_low_first i k n ≡ bytes
listed i zero n [] l h = refl
listed i (suc k) n [] l h = absurd (omega arith)
listed i zero n (b ∷ bytes) l h = absurd (omega arith)
listed i (suc k) n (b ∷ bytes) l h =
    let z : i ≡ i + 0 = omega arith in
    let a = ap (λ m. byte_at m n) z ∙ h 0 (omega arith) in
    let r = listed (suc i) k n bytes (omega arith) (λ j m. let e : suc i + j ≡ i + suc j = omega arith in ap (λ m. byte_at m n) e ∙ h (suc j) (omega arith)) in
    (λ t. a t ∷ r t)

byte_lt : (bytes : List ℕ) → AllByRecursion (λ b. b < 256) bytes → (i : ℕ) → get_or bytes i 0 < 256
byte_lt [] h i = omega arith
byte_lt (b ∷ bytes) h zero = h.0
byte_lt (b ∷ bytes) h (suc i) = byte_lt bytes h.1 i

pub bytes_again : (bytes : List ℕ) → length bytes ≡ 16 → AllByRecursion (λ b. b < 256) bytes → to_le_bytes w128 (from_le_bytes w128 bytes) ≡ bytes
bytes_again bytes l h =
    listed 0 16 (from_le_bytes w128 bytes) bytes l
    (λ j m. let z : 0 + j ≡ j = omega arith in ap (λ j. byte_at j (from_le_bytes w128 bytes)) z ∙ byte_is (λ i. get_or bytes i 0) (byte_lt bytes h) 15 j (omega arith))
