-- Neighbouring values taken as one.
use Rattle.std.proofs.Common.{◌≡◌, ℕ, zero, suc, ◌+◌, ◌-◌, ◌*◌, ◌/◌, ◌%◌, ◌^◌, ◌<◌, ◌≤◌, inl, inr, List, [], ◌∷◌, length, get_or, bit_xor, refl, sym, ◌∙◌, ap, subst, arith}
use Rattle.std.specs.Int.Bits.{xor_shifted}
use Rattle.std.proofs.Math.Nat.{div-add-mod, mod-lt, pow-suc, pow-le-pow_right}
use Rattle.std.proofs.lemmas.Bool.{cases_lt}
use Rattle.std.proofs.lemmas.Nat.{div-mul-add, mod-mul-add, mod-pow-add, pow-add, pow_pos, shl_below, shr-shr, shr_split}
use Rattle.std.proofs.lemmas.List.{get_or-take}
use Rattle.tower_laws.specs.Tower.{mul}
use Rattle.tower_laws.proofs.Field.{identity, field_terms}
use Rattle.tower_laws.proofs.Levels.{field_assoc, field_one}
use Rattle.tower_laws.proofs.Roots.{as_join}
use Rattle.cube_laws.specs.Sums.{sum_to}
use Rattle.cube_laws.proofs.Positions.{sum_to-last}
use Rattle.cube_laws.proofs.Weights.{sum_to-same}
use Rattle.column_laws.proofs.Powers.{generator_times}
use Rattle.packed_words.specs.Packing.{per_word, element_at, lane, lanes}
use Rattle.packed_words.proofs.Packed.{lane_at}
use Rattle.packed_words.proofs.Levels.{per_word_pos}
use Rattle.column_store.specs.Column.{ColumnValues, packed_values, IsPacked}
use Rattle.column_store.proofs.Words.{stored, column_len}

swap : (a b : ℕ) → mul a b ≡ bit_xor 0 (mul b a)
swap a b = identity (a ∷ b ∷ []) (search field_terms depth 60 fits 20000) refl

more : (a b c : ℕ) → a ≤ b → a * c ≤ b * c
more a b c h = grind arith

one_below : (a b c : ℕ) → a < b → a * c + c ≤ b * c
one_below a b c h = let g = more (a + 1) b c (omega arith) in let s : (a + 1) * c ≡ a * c + c = grind arith in omega arith

-- a number times 2 ^ (u · 2 ^ i) is the number at place u
place_times : (n i u v : ℕ) → u < 2 ^ n → v < 2 ^ (2 ^ i) → mul (2 ^ (u * 2 ^ i)) v ≡ v * 2 ^ (u * 2 ^ i)
place_times zero i u v h l =
    let e : u * 2 ^ i ≡ 0 = let z : u ≡ 0 = omega arith in ap (λ u. u * 2 ^ i) z ∙ omega arith in
    ap (λ w. mul (2 ^ w) v) e ∙ field_one v ∙ omega arith ∙ ap (λ w. v * 2 ^ w) (sym e)
place_times (suc n) i u v h l =
    elim (cases_lt u (2 ^ n)) [
      | inl below ↦ place_times n i u v below l
      | inr above ↦ upper (u - 2 ^ n) (omega arith) (omega (arith, pow-suc 2 n)) (place_times n i (u - 2 ^ n) v (omega (arith, pow-suc 2 n)) l)
    ]
  where
    upper : (w : ℕ) → u ≡ 2 ^ n + w → w < 2 ^ n → mul (2 ^ (w * 2 ^ i)) v ≡ v * 2 ^ (w * 2 ^ i) → mul (2 ^ (u * 2 ^ i)) v ≡ v * 2 ^ (u * 2 ^ i)
    upper w e below known =
        let m : ℕ = 2 ^ (n + i) in
        let a : ℕ = w * 2 ^ i in
        let c : ℕ = v * 2 ^ a in
        let size : m ≡ 2 ^ n * 2 ^ i = pow-add 2 n i in
        let room : a + 2 ^ i ≤ m = parts w (2 ^ n) (2 ^ i) m below size in
        let place : u * 2 ^ i ≡ m + a = ap (λ u. u * 2 ^ i) e ∙ spread (2 ^ n) w (2 ^ i) ∙ ap (λ x. x + a) (sym size) in
        let small : c < 2 ^ m = wider v (2 ^ i) a m l room in
        let z = pow_pos i in
        let powers : 2 ^ (u * 2 ^ i) ≡ mul (2 ^ m) (2 ^ a) = ap (λ x. 2 ^ x) place ∙ sym (generator_times (n + i) a (omega arith)) in
        let together : c * 2 ^ m + 0 ≡ v * 2 ^ (u * 2 ^ i) = joined v a m (u * 2 ^ i) place in
        ap (λ x. mul x v) powers ∙ field_assoc (2 ^ m) (2 ^ a) v ∙ ap (mul (2 ^ m)) known ∙ swap (2 ^ m) c ∙ as_join (n + i) c 0 small (pow_pos m) ∙ together
      where
        parts : (w p t m : ℕ) → w < p → m ≡ p * t → w * t + t ≤ m
        parts w p t m h e = let g = one_below w p t h in omega arith

        spread : (p w t : ℕ) → (p + w) * t ≡ p * t + w * t
        spread p w t = grind arith

        wider : (v t a m : ℕ) → v < 2 ^ t → a + t ≤ m → v * 2 ^ a < 2 ^ m
        wider v t a m h l =
            let s = shl_below v t a h in
            let p : 2 ^ (t + a) ≤ 2 ^ m = pow-le-pow_right {n = 2} (omega arith) (omega arith) in
            omega arith

        joined : (v a m x : ℕ) → x ≡ m + a → v * 2 ^ a * 2 ^ m + 0 ≡ v * 2 ^ x
        joined v a m x e = let p : 2 ^ x ≡ 2 ^ m * 2 ^ a = ap (λ y. 2 ^ y) e ∙ pow-add 2 m a in grind arith

-- the lowest digits of a number, in base 2 ^ (2 ^ i)
digits_are : (i k n x : ℕ) → n ≤ 2 ^ k → sum_to n (λ u. mul (2 ^ (u * 2 ^ i)) (x / 2 ^ (u * 2 ^ i) % 2 ^ (2 ^ i))) ≡ x % 2 ^ (n * 2 ^ i)
digits_are i k zero x h = let e : zero * 2 ^ i ≡ 0 = omega arith in sym (ap (λ w. x % 2 ^ w) e ∙ omega arith)
digits_are i k (suc n) x h =
    let t : ℕ = 2 ^ i in
    let a : ℕ = n * t in
    let digit : ℕ = x / 2 ^ a % 2 ^ t in
    let f : ℕ → ℕ = λ u. mul (2 ^ (u * t)) (x / 2 ^ (u * t) % 2 ^ t) in
    let size : suc n * t ≡ t + a = grind arith in
    sum_to-last n f
    ∙ (λ j. bit_xor (place_times k i n digit (omega arith) (mod-lt (x / 2 ^ a) (pow_pos t)) j) (digits_are i k n x (omega arith) j))
    ∙ xor_shifted digit a (x % 2 ^ a) (mod-lt x (pow_pos a))
    ∙ sym (ap (λ w. x % 2 ^ w) size ∙ mod-pow-add x t a)

-- an element of level i + k is made of 2 ^ k elements of level i
wide_element : (i k word q : ℕ) → element_at (i + k) word q ≡ sum_to (2 ^ k) (λ u. mul (2 ^ (u * 2 ^ i)) (element_at i word (q * 2 ^ k + u)))
wide_element i k word q =
    let t : ℕ = 2 ^ i in
    let a : ℕ = 2 ^ (i + k) * q in
    let x : ℕ = word / 2 ^ a in
    let size : 2 ^ (i + k) ≡ 2 ^ k * t = pow-add 2 i k ∙ turned (2 ^ i) (2 ^ k) in
    ap (λ w. x % 2 ^ w) size ∙ sym (digits_are i k (2 ^ k) x (omega arith))
    ∙ sum_to-same (2 ^ k) _ (λ u. mul (2 ^ (u * t)) (element_at i word (q * 2 ^ k + u)))
    (λ u l. ap (λ w. mul (2 ^ (u * t)) (w % 2 ^ t)) (shr-shr word a (u * t) ∙ ap (λ w. word / 2 ^ w) (places (2 ^ (i + k)) (2 ^ k) t q u size)))
  where
    turned : (a b : ℕ) → a * b ≡ b * a
    turned a b = grind arith

    places : (m p t q u : ℕ) → m ≡ p * t → m * q + u * t ≡ t * (q * p + u)
    places m p t q u e = ap (λ m. m * q + u * t) e ∙ spread p t q u
      where
        spread : (p t q u : ℕ) → p * t * q + u * t ≡ t * (q * p + u)
        spread p t q u = grind arith

per_word_times : (i k : ℕ) → i + k ≤ 7 → per_word i ≡ per_word (i + k) * 2 ^ k
per_word_times i k h = let e : 7 - i ≡ (7 - (i + k)) + k = omega arith in ap (λ w. 2 ^ w) e ∙ pow-add 2 (7 - (i + k)) k

-- element u of block p, where a word holds n whole blocks of m elements
block_place : (n m p u : ℕ) → 0 < n → u < m → ((p * m + u) / (n * m) ≡ p / n) × ((p * m + u) % (n * m) ≡ p % n * m + u)
block_place n m p u h l =
    let q : ℕ = p / n in
    let r : ℕ = p % n in
    let e : p * m + u ≡ q * (n * m) + (r * m + u) = ap (λ p. p * m + u) (sym (div-add-mod p n)) ∙ spread n q r m u in
    let b : r * m + u < n * m = below r n m u (mod-lt p h) l in
    (ap (λ x. x / (n * m)) e ∙ div-mul-add q (n * m) (r * m + u) b, ap (λ x. x % (n * m)) e ∙ mod-mul-add q (n * m) (r * m + u) b)
  where
    spread : (n q r m u : ℕ) → (n * q + r) * m + u ≡ q * (n * m) + (r * m + u)
    spread n q r m u = grind arith

    below : (r n m u : ℕ) → r < n → u < m → r * m + u < n * m
    below r n m u h l = let g = one_below r n m h in omega arith

wide_lane : (i k p : ℕ) (words : List ℕ) → i + k ≤ 7 → lane (i + k) words p ≡ sum_to (2 ^ k) (λ u. mul (2 ^ (u * 2 ^ i)) (lane i words (p * 2 ^ k + u)))
wide_lane i k p words h =
    let n : ℕ = per_word (i + k) in
    let word : ℕ = get_or words (p / n) 0 in
    let size = per_word_times i k h in
    wide_element i k word (p % n)
    ∙ sum_to-same (2 ^ k) _ (λ u. mul (2 ^ (u * 2 ^ i)) (lane i words (p * 2 ^ k + u)))
    (λ u l.
    let b = block_place n (2 ^ k) p u (per_word_pos (i + k)) l in
    let a : p / n ≡ (p * 2 ^ k + u) / per_word i = sym (ap (λ w. (p * 2 ^ k + u) / w) size ∙ b.0) in
    let q : p % n * 2 ^ k + u ≡ (p * 2 ^ k + u) % per_word i = sym (ap (λ w. (p * 2 ^ k + u) % w) size ∙ b.1) in
    ap (mul (2 ^ (u * 2 ^ i))) (λ j. element_at i (get_or words (a j) 0) (q j)))

-- ---- the blocks of a column

block_in_words : (n m k p count w : ℕ) → (p + 1) * 2 ^ k ≤ count → count ≤ n * w → w ≡ m * 2 ^ k → p < n * m
block_in_words n m k p count w h e s =
    let z = pow_pos k in
    let a : n * w ≡ n * m * 2 ^ k = ap (λ w. n * w) s ∙ turned n m (2 ^ k) in
    smaller p (n * m) (2 ^ k) z (omega arith)
  where
    turned : (n m c : ℕ) → n * (m * c) ≡ n * m * c
    turned n m c = grind arith

    smaller : (p x c : ℕ) → 0 < c → (p + 1) * c ≤ x * c → p < x
    smaller p x c z h = elim (cases_lt p x) [
      | inl l ↦ l
      | inr l ↦ let g : x * c ≤ p * c = more x p c l in let s : (p + 1) * c ≡ p * c + c = grind arith in absurd (omega arith)
    ]

block_within : (level log count p : ℕ) (words : List ℕ) → IsPacked level count words → level + log ≤ 7 → (p + 1) * 2 ^ log ≤ count → p < length words * per_word (level + log)
block_within level log count p words h fits within = block_in_words (length words) (per_word (level + log)) log p count (per_word level) within h.enough (per_word_times level log fits)

block_is : (level log count p : ℕ) (words : List ℕ) → IsPacked level count words → level + log ≤ 7 → (p + 1) * 2 ^ log ≤ count
    → get_or (lanes (level + log) (length words) words) p 0 ≡ sum_to (2 ^ log) (λ u. mul (2 ^ (u * 2 ^ level)) (get_or (packed_values level count words) (p * 2 ^ log + u) 0))
block_is level log count p words h fits within =
    let n : ℕ = length words in
    lane_at (level + log) n p words (block_within level log count p words h fits within) ∙ wide_lane level log p words fits
    ∙ sum_to-same (2 ^ log) _ (λ u. mul (2 ^ (u * 2 ^ level)) (get_or (packed_values level count words) (p * 2 ^ log + u) 0))
    (λ u l.
    let s : (p + 1) * 2 ^ log ≡ p * 2 ^ log + 2 ^ log = grind arith in
    let here : p * 2 ^ log + u < count = omega arith in
    let e = h.enough in
    ap (mul (2 ^ (u * 2 ^ level))) (sym (get_or-take count (lanes level n words) (p * 2 ^ log + u) 0 here ∙ lane_at level n (p * 2 ^ log + u) words (omega arith))))

pub column_within : (level log count p : ℕ) (words was : List ℕ) (now : ColumnValues) → IsPacked level count words → stored level (packed_values level count words) ≡ now → was ≡ words
    → now.level + log ≤ 7 → (p + 1) * 2 ^ log ≤ length now.values → p < length was * per_word (level + log)
column_within level log count p words was now h view same fits within =
    let len = column_len level count words now h view in
    let levels : level ≡ now.level = ap (λ (c : ColumnValues). c.level) view in
    let long = ap length same in
    subst (λ n. p < n * per_word (level + log)) (sym long) (block_within level log count p words h (omega arith) (omega arith))

pub column_wide : (level log count p result : ℕ) (words was : List ℕ) (now : ColumnValues) → IsPacked level count words → stored level (packed_values level count words) ≡ now → was ≡ words
    → now.level + log ≤ 7 → (p + 1) * 2 ^ log ≤ length now.values → result ≡ get_or (lanes (level + log) (length was) was) p 0
    → result ≡ sum_to (2 ^ log) (λ u. mul (2 ^ (u * 2 ^ now.level)) (get_or now.values (p * 2 ^ log + u) 0))
column_wide level log count p result words was now h view same fits within is =
    let len = column_len level count words now h view in
    let levels : level ≡ now.level = ap (λ (c : ColumnValues). c.level) view in
    is ∙ ap (λ ws. get_or (lanes (level + log) (length ws) ws) p 0) same ∙ block_is level log count p words h (omega arith) (omega arith)
    ∙ ap (λ (c : ColumnValues). sum_to (2 ^ log) (λ u. mul (2 ^ (u * 2 ^ c.level)) (get_or c.values (p * 2 ^ log + u) 0))) view

-- a block that ends before the last value
pub whole_block : (n log p : ℕ) → p < n / 2 ^ log → (p + 1) * 2 ^ log ≤ n
whole_block n log p h = let g = more (p + 1) (n / 2 ^ log) (2 ^ log) (omega arith) in let s = shr_split n log in omega arith
