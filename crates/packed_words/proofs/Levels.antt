-- Widths of elements and of words, by cases on the level.
use Rattle.std.proofs.Common.{◌≡◌, ℕ, zero, suc, ◌-◌, ◌*◌, ◌/◌, ◌%◌, ◌^◌, ◌<◌, ◌≤◌, bit_and, refl, arith}
use Rattle.std.proofs.lemmas.Nat.{and_mask, pow_pos}
use Rattle.packed_words.specs.Packing.{per_word}

pub eight : (P : ℕ → Type 0) → P 0 → P 1 → P 2 → P 3 → P 4 → P 5 → P 6 → P 7 → (i : ℕ) → i ≤ 7 → P i
eight P a b c d e f g h zero l = a
eight P a b c d e f g h (suc zero) l = b
eight P a b c d e f g h (suc (suc zero)) l = c
eight P a b c d e f g h (suc (suc (suc zero))) l = d
eight P a b c d e f g h (suc (suc (suc (suc zero)))) l = e
eight P a b c d e f g h (suc (suc (suc (suc (suc zero))))) l = f
eight P a b c d e f g h (suc (suc (suc (suc (suc (suc zero)))))) l = g
eight P a b c d e f g h (suc (suc (suc (suc (suc (suc (suc zero))))))) l = h
eight P a b c d e f g h (suc (suc (suc (suc (suc (suc (suc (suc i)))))))) l = absurd (omega arith)

pub per_word_pos : (i : ℕ) → 0 < per_word i
per_word_pos i = pow_pos (7 - i)

-- the words' bits
pub width_times : (i : ℕ) → i ≤ 7 → 2 ^ i * per_word i ≡ 128
width_times = eight (λ i. 2 ^ i * per_word i ≡ 128) refl refl refl refl refl refl refl refl

abbrev IsPlace : ℕ → Type 0
IsPlace i = (n : ℕ) → bit_and n (1 * 2 ^ (7 - i) % 18446744073709551616 - 1) * 2 ^ i % 18446744073709551616 ≡ 2 ^ i * (n % per_word i)

pub place_is : (i : ℕ) → i ≤ 7 → IsPlace i
place_is = eight IsPlace (λ n. let m = and_mask n 7 in omega arith) (λ n. let m = and_mask n 6 in omega arith) (λ n. let m = and_mask n 5 in omega arith) (λ n. let m = and_mask n 4 in omega arith)
    (λ n. let m = and_mask n 3 in omega arith) (λ n. let m = and_mask n 2 in omega arith) (λ n. let m = and_mask n 1 in omega arith) (λ n. let m = and_mask n 0 in omega arith)

abbrev IsWithin : ℕ → Type 0
IsWithin i = (n : ℕ) → 2 ^ i * (n % per_word i) < 128

pub place_lt : (i : ℕ) → i ≤ 7 → IsWithin i
place_lt = eight IsWithin (λ n. omega arith) (λ n. omega arith) (λ n. omega arith) (λ n. omega arith) (λ n. omega arith) (λ n. omega arith) (λ n. omega arith) (λ n. omega arith)

abbrev IsMask : ℕ → Type 0
IsMask i = (340282366920938463463374607431768211455 / 2 ^ (128 - 1 * 2 ^ i % 4294967296)) ≡ 2 ^ (2 ^ i) - 1

pub mask_is : (i : ℕ) → i ≤ 7 → IsMask i
mask_is = eight IsMask refl refl refl refl refl refl refl refl

abbrev IsCount : ℕ → Type 0
IsCount i = (n : ℕ) → n ≤ 65536 → n * 2 ^ (7 - i) % 18446744073709551616 ≡ n * per_word i

pub count_is : (i : ℕ) → i ≤ 7 → IsCount i
count_is = eight IsCount (λ n h. omega arith) (λ n h. omega arith) (λ n h. omega arith) (λ n h. omega arith) (λ n h. omega arith) (λ n h. omega arith) (λ n h. omega arith) (λ n h. omega arith)

abbrev IsShort : ℕ → Type 0
IsShort i = (128 - 1 * 2 ^ i % 4294967296 < 128) × (1 * 2 ^ i % 4294967296 ≤ 128)

pub short : (i : ℕ) → i ≤ 7 → IsShort i
short = eight IsShort (omega arith, omega arith) (omega arith, omega arith) (omega arith, omega arith) (omega arith, omega arith) (omega arith, omega arith) (omega arith, omega arith) (omega arith, omega arith) (omega arith, omega arith)
