-- A column's values in words.
use Rattle.std.proofs.Common.{◌≡◌, ℕ, ◌+◌, ◌-◌, ◌*◌, ◌/◌, ◌%◌, ◌^◌, ◌<◌, ◌≤◌, List, length, take, drop, get_or, set, replicate, min, refl, sym, ap, subst, ◌∙◌, arith}
use Rattle.std.proofs.Math.Nat.{div-add-mod, mul_assoc, mod-lt, mul-le-mul_left}
use Rattle.std.proofs.Math.Seq.{take-set-lt}
use Rattle.std.proofs.lemmas.Nat.{shr-shr}
use Rattle.std.proofs.lemmas.List.{length-take-le, get_or-take, length-replicate}
use Rattle.cube_laws.specs.Sums.{tabulate}
use Rattle.cube_laws.proofs.Tabulate.{entries, tabulated, take-tabulate}
use Rattle.tower_laws.specs.Digits.{digits}
use Rattle.packed_words.specs.Packing.{per_word, lanes}
use Rattle.packed_words.proofs.Packed.{length-lanes, lane_at, word_lt, zero_lanes}
use Rattle.packed_words.proofs.Levels.{eight, width_times, per_word_pos}
use Rattle.column_store.specs.Column.{ColumnValues, packed_values, IsPacked}
use Rattle.column_store.specs.Digits.{number_of_bytes}
use Rattle.column_store.proofs.ByteDigits.{AreBytes, length-digits, digit_within, within, powers, whole_bytes, slices_are}

pub same_list : (xs ys : List ℕ) → length xs ≡ length ys → ((k : ℕ) → k < length ys → get_or xs k 0 ≡ get_or ys k 0) → xs ≡ ys
same_list xs ys l h = entries (length ys) (λ k. get_or ys k 0) xs l h ∙ tabulated (length ys) ys refl

pub length-packed : (level count : ℕ) (words : List ℕ) → IsPacked level count words → length (packed_values level count words) ≡ count
length-packed level count words h =
    length-take-le count (lanes level (length words) words) (let e = length-lanes level (length words) words in let m = h.enough in omega arith)

-- ---- one value

pub packed-set : (level count i v : ℕ) (words next : List ℕ) → i < count → length next ≡ length words → lanes level (length words) next ≡ set (lanes level (length words) words) i v
    → packed_values level count next ≡ set (packed_values level count words) i v
packed-set level count i v words next h l e = ap (λ n. take count (lanes level n next)) l ∙ ap (take count) e ∙ take-set-lt count (lanes level (length words) words) i v h

-- ---- zeros

pub are_enough : (count level : ℕ) → level ≤ 7 → count ≤ 2 ^ 32 → count ≤ (count * 2 ^ level % 18446744073709551616 + 127) / 128 * per_word level
are_enough count level h few =
    eight (λ i. count ≤ (count * 2 ^ i % 18446744073709551616 + 127) / 128 * per_word i)
    (omega arith) (omega arith) (omega arith) (omega arith) (omega arith) (omega arith) (omega arith) (omega arith) level h

pub packed_zeros : (level count n : ℕ) → count ≤ n * per_word level → packed_values level count (replicate n 0) ≡ tabulate count (λ _. 0)
packed_zeros level count n h =
    let d : ℕ = n * per_word level - count in
    let e : n * per_word level ≡ count + d = omega arith in
    ap (λ m. take count (lanes level m (replicate n 0))) (length-replicate n 0) ∙ ap (take count) (zero_lanes level n)
    ∙ ap (λ m. take count (tabulate m (λ _. 0))) e ∙ take-tabulate count d (λ _. 0)

-- ---- the values that bytes spell

pub word_is : (bytes : List ℕ) (k a b : ℕ) → AreBytes bytes → a ≡ min (k * 16) (length bytes) → b ≡ min (length (take (length bytes - a) (drop a bytes))) 16
    → number_of_bytes (take b (take (length bytes - a) (drop a bytes))) ≡ number_of_bytes bytes / 2 ^ (128 * k) % 2 ^ 128
word_is bytes k a b h ea eb =
    ap number_of_bytes (slices_are bytes (k * 16) 16 a b ea (omega arith))
    ∙ sym (whole_bytes bytes 16 k h)
    ∙ ap (λ x. number_of_bytes bytes / x % 2 ^ 128) (powers 128 k)

-- a value of a number's words is a digit of it
digit_of_words : (level p number : ℕ) → level ≤ 7
    → number / 2 ^ (128 * (p / per_word level)) % 2 ^ 128 / 2 ^ (2 ^ level * (p % per_word level)) % 2 ^ (2 ^ level) ≡ number / (2 ^ (2 ^ level)) ^ p % 2 ^ (2 ^ level)
digit_of_words level p number h =
    let w : ℕ = 2 ^ level in
    let n : ℕ = per_word level in
    let a : ℕ = p / n in
    let q : ℕ = p % n in
    let whole : w * n ≡ 128 = width_times level h in
    let below : q < n = mod-lt p (per_word_pos level) in
    let room : w * q + w ≤ 128 = fits w q n below whole in
    let place : 128 * a + w * q ≡ w * p = places w n a q p whole (div-add-mod p n) in
    sym (within (number / 2 ^ (128 * a)) 128 (w * q) w room)
    ∙ ap (λ x. x % 2 ^ w) (shr-shr number (128 * a) (w * q))
    ∙ ap (λ x. number / 2 ^ x % 2 ^ w) place
    ∙ ap (λ x. number / x % 2 ^ w) (sym (powers w p))
  where
    fits : (w q n : ℕ) → q < n → w * n ≡ 128 → w * q + w ≤ 128
    fits w q n h e = let m : q + 1 ≤ n = omega arith in let g : w * (q + 1) ≤ w * n = mul-le-mul_left w m in let s : w * (q + 1) ≡ w * q + w = grind arith in omega arith

    places : (w n a q p : ℕ) → w * n ≡ 128 → n * a + q ≡ p → 128 * a + w * q ≡ w * p
    places w n a q p e d = ap (λ x. x * a + w * q) (sym e) ∙ ap (λ x. x + w * q) (mul_assoc w n a) ∙ spread w (n * a) q ∙ ap (λ x. w * x) d
      where
        spread : (w x q : ℕ) → w * x + w * q ≡ w * (x + q)
        spread w x q = grind arith

pub spelled_values : (level count number : ℕ) (words : List ℕ) → IsPacked level count words → ((k : ℕ) → k < length words → get_or words k 0 ≡ number / 2 ^ (128 * k) % 2 ^ 128)
    → packed_values level count words ≡ digits (2 ^ (2 ^ level)) count number
spelled_values level count number words h is =
    let n : ℕ = length words in
    let b : ℕ = 2 ^ (2 ^ level) in
    let ln = length-packed level count words h in
    let ld = length-digits b count number in
    same_list (packed_values level count words) (digits b count number) (ln ∙ sym ld) (λ p l.
    let lp : p < count = omega arith in
    let m = h.enough in
    let here : p < n * per_word level = omega arith in
    get_or-take count (lanes level n words) p 0 lp ∙ lane_at level n p words here
    ∙ ap (λ w. w / 2 ^ (2 ^ level * (p % per_word level)) % b) (is (p / per_word level) (word_lt level n p here))
    ∙ digit_of_words level p number h.is_a_level ∙ sym (digit_within b count number p lp))

-- ---- the steps of a column's calls, whose fields are level, count and words

abbrev pub stored : ℕ → List ℕ → ColumnValues
stored level values = record { level = level; values = values }

pub column_len : (level count : ℕ) (words : List ℕ) (now : ColumnValues) → IsPacked level count words → stored level (packed_values level count words) ≡ now → count ≡ length now.values
column_len level count words now h view = sym (length-packed level count words h) ∙ ap (λ (c : ColumnValues). length c.values) view

pub column_set : (level count i v : ℕ) (words was next : List ℕ) (now : ColumnValues) → IsPacked level count words → stored level (packed_values level count words) ≡ now → was ≡ words → length next ≡ length was
    → i < length now.values → lanes level (length was) next ≡ set (lanes level (length was) was) i v → stored level (packed_values level count next) ≡ stored now.level (set now.values i v)
column_set level count i v words was next now h view same long inside is =
    let len = column_len level count words now h view in
    let here : i < count = omega arith in
    let long' : length next ≡ length words = long ∙ ap length same in
    let is' : lanes level (length words) next ≡ set (lanes level (length words) words) i v = subst (λ ws. lanes level (length ws) next ≡ set (lanes level (length ws) ws) i v) same is in
    let values : packed_values level count next ≡ set now.values i v = packed-set level count i v words next here long' is' ∙ ap (λ (c : ColumnValues). set c.values i v) view in
    let levels : level ≡ now.level = ap (λ (c : ColumnValues). c.level) view in
    λ k. stored (levels k) (values k)

pub column_spelled : (level count number : ℕ) (words next : List ℕ) (now : ColumnValues) → IsPacked level count words → stored level (packed_values level count words) ≡ now → length next ≡ length words
    → ((k : ℕ) → k < length words → get_or next k 0 ≡ number / 2 ^ (128 * k) % 2 ^ 128) → stored level (packed_values level count next) ≡ stored now.level (digits (2 ^ (2 ^ now.level)) (length now.values) number)
column_spelled level count number words next now h view long is =
    let len = column_len level count words now h view in
    let levels : level ≡ now.level = ap (λ (c : ColumnValues). c.level) view in
    let packed : IsPacked level count next = record { is_a_level = h.is_a_level; enough = subst (λ n. count ≤ n * per_word level) (sym long) h.enough } in
    let values : packed_values level count next ≡ digits (2 ^ (2 ^ now.level)) (length now.values) number =
    spelled_values level count number next packed (λ k l. is k (omega arith)) ∙ (λ k. digits (2 ^ (2 ^ levels k)) (len k) number) in
    λ k. stored (levels k) (values k)

pub column_zeros : (level count : ℕ) (n : ℕ) (words : List ℕ) → words ≡ replicate n 0 → count ≤ n * per_word level → stored level (packed_values level count words) ≡ stored level (tabulate count (λ _. 0))
column_zeros level count n words is h =
    let values : packed_values level count words ≡ tabulate count (λ _. 0) = ap (packed_values level count) is ∙ packed_zeros level count n h in
    λ k. stored level (values k)
