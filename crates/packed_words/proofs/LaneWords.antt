-- Elements of one level as halves of those of the next, and their products.
use Rattle.std.proofs.Common.{◌≡◌, ℕ, zero, suc, ◌+◌, ◌-◌, ◌*◌, ◌/◌, ◌%◌, ◌^◌, ◌<◌, ◌≤◌, map, get_or, bit_xor, bit_and, refl, sym, ◌∙◌, ap, subst, arith, zero-add}
use Rattle.std.specs.List.{range_with_len}
use Rattle.std.specs.Int.Bits.{and_zero_l, and_zero_r, xor_zero_l, xor_zero_r}
use Rattle.std.proofs.lemmas.List.FromFn.{get_or-map-range_with_len}
use Rattle.std.proofs.lemmas.Nat.{and_shr, and_mod, and_mask, xor_shr, xor_mod, pow_pos, shr-shr, pow-add, mod-pow-add, div-mul-add, xor_lt}
use Rattle.std.proofs.Math.Nat.{mod-lt, mod-eq_of_lt, mul-mod_left}
use Rattle.std.proofs.Math.Pow.{mod-mod-pow}
use Rattle.tower_laws.specs.Tower.{generator, low, high, join, mul}
use Rattle.tower_laws.proofs.Levels.{low-join, high-join, field_zero, field_one}
use Rattle.tower_laws.proofs.Rules.{times_one}
use Rattle.tower_laws.proofs.Halves.{mul_by_halves, mul_generator}
use Rattle.packed_words.specs.declared.transpose.TheConstants.{CLEAR}
use Rattle.packed_words.specs.Packing.{per_word, element_at}
use Rattle.packed_words.specs.LaneWords.{low_at, high_at, AllAtPairs, IsCarried, AreProducts, AreCrossed}
use Rattle.packed_words.proofs.Sevens.{seven}
use Rattle.packed_words.proofs.Levels.{width_times}

pub element_lt : (i w q : ℕ) → element_at i w q < 2 ^ (2 ^ i)
element_lt i w q = mod-lt (w / 2 ^ (2 ^ i * q)) (pow_pos (2 ^ i))

-- ---- halves
pub pair_at : (i w q : ℕ) → element_at (i + 1) w q ≡ join i (high_at i w q) (low_at i w q)
pair_at i w q =
    let e1 : 2 ^ (i + 1) * q ≡ 2 ^ i * (2 * q) = ap (λ n. n * q) (pow-add 2 i 1) ∙ turned (2 ^ i) q in
    let e2 : 2 ^ (i + 1) ≡ 2 ^ i + 2 ^ i = pow-add 2 i 1 ∙ twice (2 ^ i) in
    let e3 : 2 ^ i * (2 * q) + 2 ^ i ≡ 2 ^ i * (2 * q + 1) = grind arith in
    ap (λ n. w / 2 ^ n % 2 ^ (2 ^ (i + 1))) e1 ∙ ap (λ n. w / 2 ^ (2 ^ i * (2 * q)) % 2 ^ n) e2 ∙ mod-pow-add (w / 2 ^ (2 ^ i * (2 * q))) (2 ^ i) (2 ^ i)
    ∙ ap (λ h. h % 2 ^ (2 ^ i) * 2 ^ (2 ^ i) + low_at i w q) (shr-shr w (2 ^ i * (2 * q)) (2 ^ i) ∙ ap (λ n. w / 2 ^ n) e3)
  where
    turned : (t q : ℕ) → t * 2 ^ 1 * q ≡ t * (2 * q)
    turned t q = grind arith

    twice : (t : ℕ) → t * 2 ^ 1 ≡ t + t
    twice t = omega arith

pub low_is : (i w q : ℕ) → low i (element_at (i + 1) w q) ≡ low_at i w q
low_is i w q = ap (low i) (pair_at i w q) ∙ low-join i (high_at i w q) (low_at i w q) (element_lt i w (2 * q))

pub high_is : (i w q : ℕ) → high i (element_at (i + 1) w q) ≡ high_at i w q
high_is i w q = ap (high i) (pair_at i w q) ∙ high-join i (high_at i w q) (low_at i w q) (element_lt i w (2 * q + 1)) (element_lt i w (2 * q))

pub xor_at : (i a b q : ℕ) → element_at i (bit_xor a b) q ≡ bit_xor (element_at i a q) (element_at i b q)
xor_at i a b q = ap (λ w. w % 2 ^ (2 ^ i)) (xor_shr a b (2 ^ i * q)) ∙ xor_mod (a / 2 ^ (2 ^ i * q)) (b / 2 ^ (2 ^ i * q)) (2 ^ i)

and_at : (i a b q : ℕ) → element_at i (bit_and a b) q ≡ bit_and (element_at i a q) (element_at i b q)
and_at i a b q = ap (λ w. w % 2 ^ (2 ^ i)) (and_shr a b (2 ^ i * q)) ∙ and_mod (a / 2 ^ (2 ^ i * q)) (b / 2 ^ (2 ^ i * q)) (2 ^ i)

-- ---- the constants
abbrev clear : ℕ → ℕ
clear i = get_or CLEAR i 0

abbrev AreLow : ℕ → Type 0
AreLow i = map (low_at i (clear i)) (range_with_len 0 (per_word (i + 1))) ≡ map (λ _. 2 ^ (2 ^ i) - 1) (range_with_len 0 (per_word (i + 1)))

abbrev AreHigh : ℕ → Type 0
AreHigh i = map (high_at i (clear i)) (range_with_len 0 (per_word (i + 1))) ≡ map (λ _. 0) (range_with_len 0 (per_word (i + 1)))

low_clears : (i : ℕ) → i < 7 → AreLow i
low_clears = seven AreLow refl refl refl refl refl refl refl

high_clears : (i : ℕ) → i < 7 → AreHigh i
high_clears = seven AreHigh refl refl refl refl refl refl refl

at : (f g : ℕ → ℕ) (n q : ℕ) → q < n → map f (range_with_len 0 n) ≡ map g (range_with_len 0 n) → f q ≡ g q
at f g n q l e = sym (get_or-map-range_with_len f 0 n q q 0 l (zero-add q)) ∙ ap (λ t. get_or t q 0) e ∙ get_or-map-range_with_len g 0 n q q 0 l (zero-add q)

-- ---- half the width of an element of the next level, as the code has it
abbrev IsHalf : ℕ → Type 0
IsHalf i = (1 * 2 ^ i % 4294967296 < 128) × (1 * 2 ^ i % 4294967296 ≡ 2 ^ i)

pub half_width : (i : ℕ) → i < 7 → IsHalf i
half_width = seven IsHalf (omega arith, omega arith) (omega arith, omega arith) (omega arith, omega arith) (omega arith, omega arith) (omega arith, omega arith) (omega arith, omega arith) (omega arith, omega arith)

-- ---- what a mask leaves
pub lows_low : (i w q : ℕ) → i < 7 → q < per_word (i + 1) → low_at i (bit_and w (clear i)) q ≡ low_at i w q
lows_low i w q h l =
    and_at i w (clear i) (2 * q) ∙ ap (bit_and (low_at i w q)) (at (low_at i (clear i)) (λ _. 2 ^ (2 ^ i) - 1) (per_word (i + 1)) q l (low_clears i h))
    ∙ and_mask (low_at i w q) (2 ^ i) ∙ mod-eq_of_lt (element_lt i w (2 * q))

pub lows_high : (i w q : ℕ) → i < 7 → q < per_word (i + 1) → high_at i (bit_and w (clear i)) q ≡ 0
lows_high i w q h l =
    and_at i w (clear i) (2 * q + 1) ∙ ap (bit_and (high_at i w q)) (at (high_at i (clear i)) (λ _. 0) (per_word (i + 1)) q l (high_clears i h)) ∙ and_zero_r (high_at i w q)

moved_down : (i w p : ℕ) → element_at i (w / 2 ^ (2 ^ i)) p ≡ element_at i w (p + 1)
moved_down i w p = let e : 2 ^ i + 2 ^ i * p ≡ 2 ^ i * (p + 1) = grind arith in ap (λ n. n % 2 ^ (2 ^ i)) (shr-shr w (2 ^ i) (2 ^ i * p) ∙ ap (λ n. w / 2 ^ n) e)

pub highs_low : (i w q : ℕ) → i < 7 → q < per_word (i + 1) → low_at i (bit_and (w / 2 ^ (2 ^ i)) (clear i)) q ≡ high_at i w q
highs_low i w q h l = lows_low i (w / 2 ^ (2 ^ i)) q h l ∙ moved_down i w (2 * q)

-- ---- what a shift moves
window : (z k t j : ℕ) → z % 2 ^ ((j + t) + k) / 2 ^ k % 2 ^ t ≡ z / 2 ^ k % 2 ^ t
window z k t j =
    ap (λ n. n / 2 ^ k % 2 ^ t) (mod-pow-add z (j + t) k) ∙ ap (λ n. n % 2 ^ t) (div-mul-add (z / 2 ^ k % 2 ^ (j + t)) (2 ^ k) (z % 2 ^ k) (mod-lt z (pow_pos k)))
    ∙ mod-mod-pow (z / 2 ^ k) j t

in_word : (z k t : ℕ) → t + k ≤ 128 → z % 2 ^ 128 / 2 ^ k % 2 ^ t ≡ z / 2 ^ k % 2 ^ t
in_word z k t h = let e : 128 ≡ ((128 - (t + k)) + t) + k = omega arith in ap (λ n. z % 2 ^ n / 2 ^ k % 2 ^ t) e ∙ window z k t (128 - (t + k))

pub moved_up : (i w p : ℕ) → i ≤ 7 → p + 1 < per_word i → element_at i (w * 2 ^ (2 ^ i) % 2 ^ 128) (p + 1) ≡ element_at i w p
moved_up i w p h l =
    let e : 2 ^ i * (p + 1) ≡ 2 ^ i + 2 ^ i * p = grind arith in
    let w0 : w * 2 ^ (2 ^ i) ≡ w * 2 ^ (2 ^ i) + 0 = omega arith in
    in_word (w * 2 ^ (2 ^ i)) (2 ^ i * (p + 1)) (2 ^ i) (fits (2 ^ i) (p + 1) (per_word i) l (width_times i h))
    ∙ ap (λ n. w * 2 ^ (2 ^ i) / 2 ^ n % 2 ^ (2 ^ i)) e ∙ ap (λ n. n % 2 ^ (2 ^ i)) (sym (shr-shr (w * 2 ^ (2 ^ i)) (2 ^ i) (2 ^ i * p)))
    ∙ ap (λ n. n / 2 ^ (2 ^ i * p) % 2 ^ (2 ^ i)) (ap (λ n. n / 2 ^ (2 ^ i)) w0 ∙ div-mul-add w (2 ^ (2 ^ i)) 0 (pow_pos (2 ^ i)))
  where
    fits : (t p n : ℕ) → p < n → t * n ≡ 128 → t + t * p ≤ 128
    fits t p n m e = grind arith

pub none_first : (i w : ℕ) → i ≤ 7 → element_at i (w * 2 ^ (2 ^ i) % 2 ^ 128) 0 ≡ 0
none_first i w h =
    in_word (w * 2 ^ (2 ^ i)) (2 ^ i * 0) (2 ^ i) (fits (2 ^ i) (per_word i) (pow_pos (7 - i)) (width_times i h))
    ∙ ap (λ n. n % 2 ^ (2 ^ i)) (whole (w * 2 ^ (2 ^ i)) (2 ^ i)) ∙ mul-mod_left w (2 ^ (2 ^ i))
  where
    fits : (t n : ℕ) → 0 < n → t * n ≡ 128 → t + t * 0 ≤ 128
    fits t n m e = grind arith

    whole : (z t : ℕ) → z / 2 ^ (t * 0) ≡ z
    whole z t = let e : t * 0 ≡ 0 = grind arith in ap (λ n. z / 2 ^ n) e ∙ omega arith

pairs : (i : ℕ) → i < 7 → per_word i ≡ 2 * per_word (i + 1)
pairs = seven (λ i. per_word i ≡ 2 * per_word (i + 1)) refl refl refl refl refl refl refl

-- the low halves of what is moved up by half an element come from the high halves before
moved_low : (i h q : ℕ) → i < 7 → q < per_word (i + 1) → AllAtPairs i (λ q. high_at i h q ≡ 0) → low_at i (h * 2 ^ (2 ^ i) % 2 ^ 128) q ≡ 0
moved_low i h zero k l alone = none_first i h (omega arith)
moved_low i h (suc q) k l alone =
    let e : 2 * suc q ≡ (2 * q + 1) + 1 = omega arith in
    let n = pairs i k in
    ap (element_at i (h * 2 ^ (2 ^ i) % 2 ^ 128)) e ∙ moved_up i h (2 * q + 1) (omega arith) (omega arith) ∙ alone q (omega arith)

-- ---- elements from halves
abbrev both : ℕ → ℕ → ℕ → ℕ
both i h l = bit_xor (h * 2 ^ (2 ^ i) % 2 ^ 128) l

pub joined_low : (i h l q : ℕ) → i < 7 → q < per_word (i + 1) → AllAtPairs i (λ q. high_at i h q ≡ 0) → low_at i (both i h l) q ≡ low_at i l q
joined_low i h l q k m alone = xor_at i (h * 2 ^ (2 ^ i) % 2 ^ 128) l (2 * q) ∙ ap (λ z. bit_xor z (low_at i l q)) (moved_low i h q k m alone) ∙ xor_zero_l (low_at i l q)

pub joined_high : (i h l q : ℕ) → i < 7 → q < per_word (i + 1) → AllAtPairs i (λ q. high_at i l q ≡ 0) → high_at i (both i h l) q ≡ low_at i h q
joined_high i h l q k m alone =
    let n = pairs i k in
    xor_at i (h * 2 ^ (2 ^ i) % 2 ^ 128) l (2 * q + 1) ∙ (λ t. bit_xor (moved_up i h (2 * q) (omega arith) (omega arith) t) (alone q m t)) ∙ xor_zero_r (low_at i h q)

-- ---- products
-- an element of the next level from its halves
from_halves : (i w q h l : ℕ) → high_at i w q ≡ h → low_at i w q ≡ l → element_at (i + 1) w q ≡ join i h l
from_halves i w q h l eh el = pair_at i w q ∙ (λ t. join i (eh t) (el t))

pub raised_at : (i w c r q : ℕ) → low_at i c q ≡ mul (high_at i w q) (generator i) → low_at i r q ≡ high_at i w q → high_at i r q ≡ bit_xor (low_at i w q) (low_at i c q)
    → element_at (i + 1) r q ≡ mul (element_at (i + 1) w q) (generator (i + 1))
raised_at i w c r q ec el eh =
    let e : i + 1 ≡ suc i = omega arith in
    let m = ap (λ n. mul (element_at (i + 1) w q) (generator n)) e ∙ mul_generator i (element_at (i + 1) w q) (subst (λ n. element_at (i + 1) w q < 2 ^ (2 ^ n)) e (element_lt (i + 1) w q)) in
    from_halves i r q (bit_xor (low_at i w q) (mul (high_at i w q) (generator i))) (high_at i w q) (eh ∙ ap (bit_xor (low_at i w q)) ec) el
    ∙ sym (m ∙ (λ t. join i (bit_xor (low_is i w q t) (mul (high_is i w q t) (generator i))) (high_is i w q t)))

pub combined_at : (i a b s x c r q : ℕ)
    → low_at i s q ≡ mul (low_at i a q) (low_at i b q) → high_at i s q ≡ mul (high_at i a q) (high_at i b q)
    → low_at i x q ≡ mul (low_at i a q) (high_at i b q) → high_at i x q ≡ mul (high_at i a q) (low_at i b q)
    → low_at i c q ≡ mul (high_at i s q) (generator i)
    → low_at i r q ≡ bit_xor (low_at i s q) (high_at i s q) → high_at i r q ≡ bit_xor (bit_xor (low_at i x q) (high_at i x q)) (low_at i c q)
    → element_at (i + 1) r q ≡ mul (element_at (i + 1) a q) (element_at (i + 1) b q)
combined_at i a b s x c r q sl sh xl xh cl rl rh =
    let a0 : ℕ = low_at i a q in
    let a1 : ℕ = high_at i a q in
    let b0 : ℕ = low_at i b q in
    let b1 : ℕ = high_at i b q in
    let e : i + 1 ≡ suc i = omega arith in
    let next_lt : (w : ℕ) → element_at (i + 1) w q < 2 ^ (2 ^ suc i) = λ w. subst (λ n. element_at (i + 1) w q < 2 ^ (2 ^ n)) e (element_lt (i + 1) w q) in
    from_halves i r q (bit_xor (bit_xor (mul a0 b1) (mul a1 b0)) (mul (mul a1 b1) (generator i))) (bit_xor (mul a0 b0) (mul a1 b1))
    (rh ∙ (λ t. bit_xor (bit_xor (xl t) (xh t)) ((cl ∙ ap (λ h. mul h (generator i)) sh) t)))
    (rl ∙ (λ t. bit_xor (sl t) (sh t)))
    ∙ sym (mul_by_halves i (element_at (i + 1) a q) (element_at (i + 1) b q) (next_lt a) (next_lt b)
    ∙ (λ t.
    join i (bit_xor (bit_xor (mul (low_is i a q t) (high_is i b q t)) (mul (high_is i a q t) (low_is i b q t))) (mul (mul (high_is i a q t) (high_is i b q t)) (generator i)))
    (bit_xor (mul (low_is i a q t) (low_is i b q t)) (mul (high_is i a q t) (high_is i b q t)))))

-- ---- the steps of the functions
pub none_of_both : (i a b q : ℕ) → high_at i a q ≡ 0 → high_at i b q ≡ 0 → high_at i (bit_xor a b) q ≡ 0
none_of_both i a b q ea eb = xor_at i a b (2 * q + 1) ∙ (λ t. bit_xor (ea t) (eb t))

first_generator : generator 0 ≡ 1
unfolding generator
first_generator = refl

pub carried_first : (w r : ℕ) → AllAtPairs 0 (λ q. low_at 0 r q ≡ high_at 0 w q) → AllAtPairs 0 (λ q. high_at 0 r q ≡ 0) → IsCarried 0 w r
carried_first w r el eh = record { low = λ q l. el q l ∙ sym (times_one (high_at 0 w q)) ∙ ap (mul (high_at 0 w q)) (sym first_generator); high = eh }

pub carried_next : (i w h r : ℕ) → i < 7 → AllAtPairs i (λ q. low_at i h q ≡ high_at i w q) → AllAtPairs i (λ q. high_at i h q ≡ 0)
    → ((p : ℕ) → p < per_word i → element_at i r p ≡ mul (element_at i h p) (generator i)) → IsCarried i w r
carried_next i w h r k el eh er =
    let n = pairs i k in
    record {
      low = λ q l. er (2 * q) (omega arith) ∙ ap (λ e. mul e (generator i)) (el q l);
      high = λ q l. er (2 * q + 1) (omega arith) ∙ ap (λ e. mul e (generator i)) (eh q l) ∙ field_zero (generator i);
    }

pub crossed_from : (i a b c x : ℕ) → i < 7 → AllAtPairs i (λ q. low_at i c q ≡ high_at i b q) → AllAtPairs i (λ q. high_at i c q ≡ low_at i b q) → AreProducts i a c x → AreCrossed i a b x
crossed_from i a b c x k el eh ex =
    let n = pairs i k in
    record { low = λ q l. ex (2 * q) (omega arith) ∙ ap (mul (low_at i a q)) (el q l); high = λ q l. ex (2 * q + 1) (omega arith) ∙ ap (mul (high_at i a q)) (eh q l) }

pub bits_are : (a b : ℕ) → AreProducts 0 a b (bit_and a b)
bits_are a b q l = and_at 0 a b q ∙ of_bits (element_at 0 a q) (element_at 0 b q) (element_lt 0 a q) (element_lt 0 b q)
  where
    of_bits : (x y : ℕ) → x < 2 → y < 2 → bit_and x y ≡ mul x y
    of_bits zero y h k = and_zero_l y ∙ sym (field_zero y)
    of_bits (suc zero) zero h k = and_zero_r 1 ∙ sym (field_one 0)
    of_bits (suc zero) (suc zero) h k = sym (field_one 1)
    of_bits (suc zero) (suc (suc y)) h k = absurd (omega arith)
    of_bits (suc (suc x)) y h k = absurd (omega arith)

-- what a sum of the halves is, where each half stands in a word of its own
pub sum_low : (i l h w q : ℕ) → low_at i l q ≡ low_at i w q → low_at i h q ≡ high_at i w q → low_at i (bit_xor l h) q ≡ bit_xor (low_at i w q) (high_at i w q)
sum_low i l h w q el eh = xor_at i l h (2 * q) ∙ (λ t. bit_xor (el t) (eh t))

pub all_combined : (i a b s x c r : ℕ) → i < 7 → IsCarried i s c → AllAtPairs i (λ q. low_at i r q ≡ bit_xor (low_at i s q) (high_at i s q))
    → AllAtPairs i (λ q. high_at i r q ≡ bit_xor (bit_xor (low_at i x q) (high_at i x q)) (low_at i c q)) → AreProducts i a b s → AreCrossed i a b x → AreProducts (i + 1) a b r
all_combined i a b s x c r k carried rl rh es ex q l =
    let n = pairs i k in
    combined_at i a b s x c r q (es (2 * q) (omega arith)) (es (2 * q + 1) (omega arith)) (ex.low q l) (ex.high q l) (carried.low q l) (rl q l) (rh q l)
