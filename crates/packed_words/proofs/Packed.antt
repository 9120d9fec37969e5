-- Elements in words.
use Rattle.std.proofs.Common.{◌≡◌, ◌≢◌, ℕ, zero, suc, ◌+◌, ◌-◌, ◌*◌, ◌/◌, ◌%◌, ◌^◌, ◌<◌, ◌≤◌, inl, inr, List, [], ◌∷◌, ◌++◌, length, get_or, set, replicate, map, bit_xor, refl, sym, ◌∙◌, ap, subst, arith, le_refl, length-append}
use Rattle.std.proofs.lemmas.Bool.{cases_lt}
use Rattle.std.proofs.lemmas.Nat.{xor_shr, xor_mod, pow_pos, pow-add, div_below, div-mul-add, shl_below, shl_whole, xor_lt}
use Rattle.std.specs.Int.Bits.{xor_zero_r}
use Rattle.std.proofs.lemmas.List.{get_or-set_same, get_or-set_other, get_or_default, get_or_append_left, length-map}
use Rattle.std.proofs.Math.ListN.{length-set}
use Rattle.std.proofs.Math.Nat.{mod-lt, mod-eq_of_lt, mul-mod_left, div-eq_of_lt, pow-le-pow_right, mul-le-mul_left, div-add-mod, zero-div}
use Rattle.tower_laws.specs.Tower.{mul}
use Rattle.tower_laws.proofs.Rules.{xor_cancel}
use Rattle.tower_laws.proofs.Levels.{field_comm}
use Rattle.tower_laws.proofs.Lists.{get_or-scaled}
use Rattle.cube_laws.specs.Extension.{fold_low}
use Rattle.cube_laws.proofs.Folding.{get_or-fold_low, length-fold_low}
use Rattle.cube_laws.specs.Sums.{tabulate}
use Rattle.cube_laws.proofs.Tabulate.{get_or-tabulate, entries, tabulated}
use Rattle.cube_laws.proofs.Weights.{length-tabulate, tabulate-same}
use Rattle.packed_words.specs.Packing.{per_word, element_at, lane, lanes, lane_sums, lane_products}
use Rattle.packed_words.specs.LaneWords.{AreProducts}
use Rattle.packed_words.proofs.Filling.{eq_cases}
use Rattle.packed_words.proofs.Levels.{width_times, count_is, per_word_pos}

pub length-lanes : (i n : ℕ) (words : List ℕ) → length (lanes i n words) ≡ n * per_word i
unfolding lanes
length-lanes i n words = length-tabulate (n * per_word i) (lane i words)

pub lane_at : (i n j : ℕ) (words : List ℕ) → j < n * per_word i → get_or (lanes i n words) j 0 ≡ lane i words j
unfolding lanes
lane_at i n j words h = get_or-tabulate (n * per_word i) j (lane i words) h

-- words whose lanes are the numbers of a list
from_lanes : (i n : ℕ) (words xs : List ℕ) → length xs ≡ n * per_word i → ((j : ℕ) → j < n * per_word i → get_or xs j 0 ≡ lane i words j) → xs ≡ lanes i n words
unfolding lanes
from_lanes i n words xs l h = entries (n * per_word i) (lane i words) xs l h

pub word_lt : (i n j : ℕ) → j < n * per_word i → j / per_word i < n
word_lt i n j h = div_below j (per_word i) n (per_word_pos i) h

-- ---- sums of words
element_xor : (i a b q : ℕ) → element_at i (bit_xor a b) q ≡ bit_xor (element_at i a q) (element_at i b q)
element_xor i a b q = ap (λ w. w % 2 ^ (2 ^ i)) (xor_shr a b (2 ^ i * q)) ∙ xor_mod (a / 2 ^ (2 ^ i * q)) (b / 2 ^ (2 ^ i * q)) (2 ^ i)

pub lanes_of_sums : (i n : ℕ) (xs ys zs : List ℕ) → ((k : ℕ) → k < n → get_or zs k 0 ≡ bit_xor (get_or xs k 0) (get_or ys k 0)) → lanes i n zs ≡ lane_sums (lanes i n xs) (lanes i n ys)
lanes_of_sums i n xs ys zs h =
    sym (from_lanes i n zs (lane_sums (lanes i n xs) (lanes i n ys)) (length-tabulate (length (lanes i n xs)) _ ∙ length-lanes i n xs) (λ j l.
    get_or-tabulate (length (lanes i n xs)) j (λ j. bit_xor (get_or (lanes i n xs) j 0) (get_or (lanes i n ys) j 0)) (let e = length-lanes i n xs in omega arith)
    ∙ (λ t. bit_xor (lane_at i n j xs l t) (lane_at i n j ys l t))
    ∙ sym (element_xor i (get_or xs (j / per_word i) 0) (get_or ys (j / per_word i) 0) (j % per_word i))
    ∙ ap (λ w. element_at i w (j % per_word i)) (sym (h (j / per_word i) (word_lt i n j l)))))

-- ---- products of words
pub lanes_of_products : (i n : ℕ) (xs ys zs : List ℕ) → ((k : ℕ) → k < n → AreProducts i (get_or xs k 0) (get_or ys k 0) (get_or zs k 0)) → lanes i n zs ≡ lane_products (lanes i n xs) (lanes i n ys)
lanes_of_products i n xs ys zs h =
    sym (from_lanes i n zs (lane_products (lanes i n xs) (lanes i n ys)) (length-tabulate (length (lanes i n xs)) _ ∙ length-lanes i n xs) (λ j l.
    get_or-tabulate (length (lanes i n xs)) j (λ j. mul (get_or (lanes i n xs) j 0) (get_or (lanes i n ys) j 0)) (let e = length-lanes i n xs in omega arith)
    ∙ (λ t. mul (lane_at i n j xs l t) (lane_at i n j ys l t))
    ∙ sym (h (j / per_word i) (word_lt i n j l) (j % per_word i) (mod-lt j (per_word_pos i)))))

-- ---- one element
below : (t q d x : ℕ) → x * 2 ^ (t * (q + suc d)) / 2 ^ (t * q) % 2 ^ t ≡ 0
below t q d x =
    let e : t * (q + suc d) ≡ t * q + (t * d + t) = grind arith in
    let p : 2 ^ (t * (q + suc d)) ≡ 2 ^ (t * q) * (2 ^ (t * d) * 2 ^ t) = ap (λ n. 2 ^ n) e ∙ pow-add 2 (t * q) (t * d + t) ∙ ap (λ w. 2 ^ (t * q) * w) (pow-add 2 (t * d) t) in
    ap (λ w. x * w / 2 ^ (t * q) % 2 ^ t) p ∙ ap (λ w. w / 2 ^ (t * q) % 2 ^ t) (turned x (2 ^ (t * q)) (2 ^ (t * d)) (2 ^ t))
    ∙ ap (λ w. w % 2 ^ t) (div-mul-add (x * 2 ^ (t * d) * 2 ^ t) (2 ^ (t * q)) 0 (pow_pos (t * q))) ∙ mul-mod_left (x * 2 ^ (t * d)) (2 ^ t)
  where
    turned : (x a b c : ℕ) → x * (a * (b * c)) ≡ (x * b * c) * a + 0
    turned x a b c = grind arith

above : (t j d x : ℕ) → x < 2 ^ t → x * 2 ^ (t * j) / 2 ^ (t * (j + suc d)) % 2 ^ t ≡ 0
above t j d x l =
    let s : x * 2 ^ (t * j) < 2 ^ (t + t * j) = shl_below x t (t * j) l in
    let e : t * (j + suc d) ≡ (t + t * j) + t * d = grind arith in
    let m : 2 ^ (t + t * j) ≤ 2 ^ (t * (j + suc d)) = le_power (t + t * j) (t * d) (t * (j + suc d)) e in
    let z : x * 2 ^ (t * j) / 2 ^ (t * (j + suc d)) ≡ 0 = div-eq_of_lt (omega arith) in
    ap (λ n. n % 2 ^ t) z ∙ mod-eq_of_lt (pow_pos t)
  where
    le_power : (a b c : ℕ) → c ≡ a + b → 2 ^ a ≤ 2 ^ c
    le_power a b c e = let h : a ≤ c = omega arith in pow-le-pow_right {n = 2} (omega arith) h

here : (t j x : ℕ) → x < 2 ^ t → x * 2 ^ (t * j) / 2 ^ (t * j) % 2 ^ t ≡ x
here t j x l =
    let e : x * 2 ^ (t * j) ≡ x * 2 ^ (t * j) + 0 = omega arith in
    ap (λ n. n / 2 ^ (t * j) % 2 ^ t) e ∙ ap (λ n. n % 2 ^ t) (div-mul-add x (2 ^ (t * j)) 0 (pow_pos (t * j))) ∙ mod-eq_of_lt l

elsewhere : (t j q x : ℕ) → q ≢ j → x < 2 ^ t → x * 2 ^ (t * j) / 2 ^ (t * q) % 2 ^ t ≡ 0
elsewhere t j q x ne l = elim (cases_lt q j) [
  | inl m ↦ let e : q + suc (j - q - 1) ≡ j = omega arith in subst (λ j. x * 2 ^ (t * j) / 2 ^ (t * q) % 2 ^ t ≡ 0) e (below t q (j - q - 1) x)
  | inr m ↦ let e : j + suc (q - j - 1) ≡ q = omega arith in subst (λ q. x * 2 ^ (t * j) / 2 ^ (t * q) % 2 ^ t ≡ 0) e (above t j (q - j - 1) x l)
]

-- a word in which element j is changed by x
changed_here : (i w x j : ℕ) → x < 2 ^ (2 ^ i) → element_at i (bit_xor w (x * 2 ^ (2 ^ i * j))) j ≡ bit_xor (element_at i w j) x
changed_here i w x j l = element_xor i w (x * 2 ^ (2 ^ i * j)) j ∙ ap (bit_xor (element_at i w j)) (here (2 ^ i) j x l)

changed_elsewhere : (i w x j q : ℕ) → q ≢ j → x < 2 ^ (2 ^ i) → element_at i (bit_xor w (x * 2 ^ (2 ^ i * j))) q ≡ element_at i w q
changed_elsewhere i w x j q ne l = element_xor i w (x * 2 ^ (2 ^ i * j)) q ∙ ap (bit_xor (element_at i w q)) (elsewhere (2 ^ i) j q x ne l) ∙ xor_zero_r (element_at i w q)

-- no bit of a change is lost
whole_change : (i x j : ℕ) → i ≤ 7 → x < 2 ^ (2 ^ i) → j < per_word i → x * 2 ^ (2 ^ i * j) % 2 ^ 128 ≡ x * 2 ^ (2 ^ i * j)
whole_change i x j h l m = shl_whole x (2 ^ i) (2 ^ i * j) 128 l (fits (2 ^ i) j (per_word i) m (width_times i h))
  where
    fits : (t j n : ℕ) → j < n → t * n ≡ 128 → t + t * j ≤ 128
    fits t j n m e = let m' : suc j ≤ n = m in let g : t * suc j ≤ t * n = mul-le-mul_left t m' in let s : t * suc j ≡ t + t * j = grind arith in omega arith

pub word_changed : (i n k v old : ℕ) (words : List ℕ) → i ≤ 7 → length words ≡ n → k < n * per_word i → v < 2 ^ (2 ^ i) → old ≡ get_or words (k / per_word i) 0
    → lanes i n (set words (k / per_word i) (bit_xor old (bit_xor (element_at i old (k % per_word i)) v * 2 ^ (2 ^ i * (k % per_word i)) % 2 ^ 128))) ≡ set (lanes i n words) k v
word_changed i n k v old words h l m lv eo =
    let p : ℕ = k / per_word i in
    let q : ℕ = k % per_word i in
    let x : ℕ = bit_xor (element_at i old q) v in
    let lq : q < per_word i = mod-lt k (per_word_pos i) in
    let lp : p < length words = let g = word_lt i n k m in omega arith in
    let le : element_at i old q < 2 ^ (2 ^ i) = mod-lt (old / 2 ^ (2 ^ i * q)) (pow_pos (2 ^ i)) in
    let lx : x < 2 ^ (2 ^ i) = xor_lt (2 ^ i) (element_at i old q) v le lv in
    let w : ℕ = bit_xor old (x * 2 ^ (2 ^ i * q)) in
    let ew : bit_xor old (x * 2 ^ (2 ^ i * q) % 2 ^ 128) ≡ w = ap (bit_xor old) (whole_change i x q h lx lq) in
    let long = length-lanes i n words in
    ap (λ w. lanes i n (set words p w)) ew
    ∙ sym (from_lanes i n (set words p w) (set (lanes i n words) k v) (length-set (lanes i n words) k v ∙ long) (λ j lj.
    elim (eq_cases j k) [
      | inl e ↦
          ap (λ j. get_or (set (lanes i n words) k v) j 0) e ∙ get_or-set_same (lanes i n words) k v 0 (omega arith)
          ∙ sym (xor_cancel (element_at i old q) v) ∙ sym (changed_here i old x q lx) ∙ ap (λ w. element_at i w q) (sym (get_or-set_same words p w 0 lp))
          ∙ ap (lane i (set words p w)) (sym e)
      | inr ne ↦ get_or-set_other (lanes i n words) k j v 0 ne ∙ lane_at i n j words lj
          ∙ elim (eq_cases (j / per_word i) p) [
            | inl e ↦
                let nq : j % per_word i ≢ q = λ z. ne (same_place j k (per_word i) e z) in
                ap (λ p. element_at i (get_or words p 0) (j % per_word i)) e ∙ ap (λ o. element_at i o (j % per_word i)) (sym eo)
                ∙ sym (changed_elsewhere i old x q (j % per_word i) nq lx) ∙ ap (λ w. element_at i w (j % per_word i)) (sym (get_or-set_same words p w 0 lp))
                ∙ ap (λ p'. element_at i (get_or (set words p w) p' 0) (j % per_word i)) (sym e)
            | inr nd ↦ ap (λ o. element_at i o (j % per_word i)) (sym (get_or-set_other words p (j / per_word i) w 0 nd))
          ]
    ]))
  where
    same_place : (j k n : ℕ) → j / n ≡ k / n → j % n ≡ k % n → j ≡ k
    same_place j k n e f = sym (div-add-mod j n) ∙ (λ t. n * (e t) + (f t)) ∙ div-add-mod k n

-- ---- the steps of the functions
pub zero_lanes : (i n : ℕ) → lanes i n (replicate n 0) ≡ tabulate (n * per_word i) (λ _. 0)
unfolding lanes
zero_lanes i n = tabulate-same (n * per_word i) (lane i (replicate n 0)) (λ _. 0) (λ j l. ap (λ w. element_at i w (j % per_word i)) (nothing n (j / per_word i)) ∙ ap (λ w. w % 2 ^ (2 ^ i)) (zero-div (2 ^ (2 ^ i * (j % per_word i)))) ∙ mod-eq_of_lt (pow_pos (2 ^ i)))
  where
    nothing : (n k : ℕ) → get_or {A = ℕ} (replicate n 0) k 0 ≡ 0
    nothing zero k = refl
    nothing (suc n) zero = refl
    nothing (suc n) (suc k) = nothing n k

-- for the level l that a call told, and the list xs of lanes
pub count_of : (i n l : ℕ) (words xs : List ℕ) → l ≡ i → i ≤ 7 → n ≤ 65536 → lanes i n words ≡ xs → n * 2 ^ (7 - l) % 18446744073709551616 ≡ length xs
count_of i n l words xs e h m v = ap (λ l. n * 2 ^ (7 - l) % 18446744073709551616) e ∙ count_is i h n m ∙ sym (length-lanes i n words) ∙ ap length v

in_words : (i n k : ℕ) (words xs : List ℕ) → lanes i n words ≡ xs → k < length xs → k < n * per_word i
in_words i n k words xs v h = let e = length-lanes i n words in let f = ap length v in omega arith

pub word_in : (i n k l r : ℕ) (words xs : List ℕ) → l ≡ i → lanes i n words ≡ xs → k < length xs → r ≡ k / per_word l → r < n
word_in i n k l r words xs e v h er = subst (λ r. r < n) (sym (er ∙ ap (λ l. k / per_word l) e)) (word_lt i n k (in_words i n k words xs v h))

pub got : (i n k l m r b x y d : ℕ) (words xs : List ℕ) → l ≡ i → m ≡ i → length words ≡ n → lanes i n words ≡ xs → k < length xs → r ≡ k / per_word l → b ≡ 2 ^ l * (k % per_word l)
    → x ≡ get_or words r d / 2 ^ b % 2 ^ (2 ^ m) → y ≡ x → y ≡ get_or xs k 0
got i n k l m r b x y d words xs e em ln v h er eb ex ey =
    let rn = word_in i n k l r words xs e v h er in
    let eo : get_or words r d ≡ get_or words (k / per_word i) 0 = get_or_default words r d 0 (omega arith) ∙ ap (λ r. get_or words r 0) (er ∙ ap (λ l. k / per_word l) e) in
    let eb' : b ≡ 2 ^ i * (k % per_word i) = eb ∙ ap (λ l. 2 ^ l * (k % per_word l)) e in
    ey ∙ ex ∙ (λ t. eo t / 2 ^ (eb' t) % 2 ^ (2 ^ (em t))) ∙ sym (lane_at i n k words (in_words i n k words xs v h)) ∙ ap (λ xs. get_or xs k 0) v

pub put : (i n k l m r b x o v : ℕ) (words xs : List ℕ) → l ≡ i → m ≡ i → i ≤ 7 → length words ≡ n → lanes i n words ≡ xs → k < length xs → r ≡ k / per_word l → b ≡ 2 ^ l * (k % per_word l)
    → o ≡ get_or words r 0 → x ≡ o / 2 ^ b % 2 ^ (2 ^ m) → v < 2 ^ (2 ^ i) → lanes i n (set words r (bit_xor o (bit_xor x v * 2 ^ b % 2 ^ 128))) ≡ set xs k v
put i n k l m r b x o v words xs e em hi ln ev h er eb eo ex lv =
    let er' : r ≡ k / per_word i = er ∙ ap (λ l. k / per_word l) e in
    let eb' : b ≡ 2 ^ i * (k % per_word i) = eb ∙ ap (λ l. 2 ^ l * (k % per_word l)) e in
    let ex' : x ≡ element_at i o (k % per_word i) = ex ∙ (λ t. o / 2 ^ (eb' t) % 2 ^ (2 ^ (em t))) in
    (λ t. lanes i n (set words (er' t) (bit_xor o (bit_xor (ex' t) v * 2 ^ (eb' t) % 2 ^ 128))))
    ∙ word_changed i n k v o words hi ln (in_words i n k words xs ev h) lv (eo ∙ ap (λ r. get_or words r 0) er') ∙ ap (λ xs. set xs k v) ev

-- ---- loops over lanes
pub record Until (i : ℕ) (wanted old now : List ℕ) : Type 0 where
  pub long : length now ≡ length wanted
  pub done : (k : ℕ) → k < i → get_or now k 0 ≡ get_or wanted k 0
  pub left : (k : ℕ) → i ≤ k → get_or now k 0 ≡ get_or old k 0

pub begun : (wanted old : List ℕ) → length old ≡ length wanted → Until 0 wanted old old
begun wanted old e = record { long = e; done = λ k l. absurd (omega arith); left = λ k l. refl }

more : (i v : ℕ) (wanted old now next : List ℕ) → i < length now → v ≡ get_or wanted i 0 → next ≡ set now i v → Until i wanted old now → Until (i + 1) wanted old next
more i v wanted old now next h ev en u = subst (Until (i + 1) wanted old) (sym en) (record {
  long = length-set now i v ∙ u.long;
  done = λ k l. elim (cases_lt k i) [
    | inl m ↦ get_or-set_other now i k v 0 (omega arith) ∙ u.done k m
    | inr g ↦ let e : k ≡ i = omega arith in ap (λ k. get_or (set now i v) k 0) e ∙ get_or-set_same now i v 0 h ∙ ev ∙ ap (λ k. get_or wanted k 0) (sym e)
  ];
  left = λ k l. get_or-set_other now i k v 0 (omega arith) ∙ u.left k (omega arith);
})

-- what is left is as it is wanted
ended_at : (i : ℕ) (wanted old now : List ℕ) → ((k : ℕ) → i ≤ k → get_or old k 0 ≡ get_or wanted k 0) → Until i wanted old now → now ≡ wanted
ended_at i wanted old now h u =
    entries (length wanted) (λ k. get_or wanted k 0) now u.long (λ k l. elim (cases_lt k i) [ inl m ↦ u.done k m | inr g ↦ u.left k g ∙ h k g ])
    ∙ tabulated (length wanted) wanted refl

past_end : (xs : List ℕ) (k : ℕ) → length xs ≤ k → get_or xs k 0 ≡ 0
past_end [] k h = refl
past_end (x ∷ xs) zero h = absurd (omega arith)
past_end (x ∷ xs) (suc k) h = past_end xs k (omega arith)

pub lanes_long : (i n c : ℕ) (words xs : List ℕ) → lanes i n words ≡ xs → c ≡ n * per_word i → length xs ≡ c
lanes_long i n c words xs v e = sym (ap length v) ∙ length-lanes i n words ∙ sym e

-- products
pub length-products : (xs ys : List ℕ) → length (lane_products xs ys) ≡ length xs
length-products xs ys = length-tabulate (length xs) (λ j. mul (get_or xs j 0) (get_or ys j 0))

pub more_products : (i v p q : ℕ) (xs ys now next : List ℕ) → i < length xs → p ≡ get_or now i 0 → q ≡ get_or ys i 0 → v ≡ mul p q → next ≡ set now i v
    → Until i (lane_products xs ys) xs now → Until (i + 1) (lane_products xs ys) xs next
more_products i v p q xs ys now next h ep eq ev en u =
    more i v (lane_products xs ys) xs now next (let l = u.long in let m = length-products xs ys in omega arith)
    (ev ∙ (λ t. mul ((ep ∙ u.left i (le_refl i)) t) (eq t)) ∙ sym (get_or-tabulate (length xs) i (λ j. mul (get_or xs j 0) (get_or ys j 0)) h)) en u

pub all_products : (i : ℕ) (xs ys now : List ℕ) → length xs ≤ i → Until i (lane_products xs ys) xs now → now ≡ lane_products xs ys
all_products i xs ys now h u =
    ended_at i (lane_products xs ys) xs now (λ k l. past_end xs k (omega arith) ∙ sym (past_end (lane_products xs ys) k (let m = length-products xs ys in omega arith))) u

-- multiples
pub more_multiples : (i v c p : ℕ) (xs now next : List ℕ) → i < length xs → p ≡ get_or now i 0 → v ≡ mul c p → next ≡ set now i v
    → Until i (map (mul c) xs) xs now → Until (i + 1) (map (mul c) xs) xs next
more_multiples i v c p xs now next h ep ev en u =
    more i v (map (mul c) xs) xs now next (let l = u.long in let m = length-map xs (mul c) in omega arith)
    (ev ∙ ap (mul c) (ep ∙ u.left i (le_refl i)) ∙ sym (get_or-scaled c i xs)) en u

pub all_multiples : (i c : ℕ) (xs now : List ℕ) → length xs ≤ i → Until i (map (mul c) xs) xs now → now ≡ map (mul c) xs
all_multiples i c xs now h u =
    ended_at i (map (mul c) xs) xs now (λ k l. past_end xs k (omega arith) ∙ sym (past_end (map (mul c) xs) k (let m = length-map xs (mul c) in omega arith))) u

-- folds
abbrev pub folded : ℕ → List ℕ → List ℕ
folded r xs = fold_low r xs ++ tabulate (length xs / 2) (λ _. 0)

length-half : (r : ℕ) (xs : List ℕ) → length xs % 2 ≡ 0 → length (fold_low r xs) ≡ length xs / 2
length-half r xs h = length-fold_low r (length xs / 2) xs (omega arith)

pub length-folded : (r : ℕ) (xs : List ℕ) → length xs % 2 ≡ 0 → length (folded r xs) ≡ length xs
length-folded r xs h =
    let a = length-append (fold_low r xs) (tabulate (length xs / 2) (λ _. 0)) in
    let b = length-half r xs h in
    let c = length-tabulate (length xs / 2) (λ _. 0) in
    omega arith

zeros_at : (n k : ℕ) → get_or (tabulate n (λ _. 0)) k 0 ≡ 0
zeros_at zero k = refl
zeros_at (suc n) zero = refl
zeros_at (suc n) (suc k) = zeros_at n k

pub fold_begun : (n r : ℕ) (xs old : List ℕ) → length xs % 2 ≡ 0 → length xs ≡ n → old ≡ tabulate n (λ _. 0) → Until 0 (folded r xs) old old
fold_begun n r xs old h l e = begun (folded r xs) old (ap length e ∙ length-tabulate n (λ _. 0) ∙ sym l ∙ sym (length-folded r xs h))

pub more_folded : (i v r a b s m : ℕ) (xs old now next : List ℕ) → length xs % 2 ≡ 0 → i < length xs / 2 → a ≡ get_or xs (2 * i) 0 → b ≡ get_or xs (2 * i + 1) 0 → s ≡ bit_xor a b → m ≡ mul s r → v ≡ bit_xor a m
    → next ≡ set now i v → Until i (folded r xs) old now → Until (i + 1) (folded r xs) old next
more_folded i v r a b s m xs old now next h l ea eb es em ev en u =
    more i v (folded r xs) old now next (let k = u.long in let n = length-folded r xs h in omega arith)
    (ev ∙ ap (bit_xor a) (em ∙ ap (λ s. mul s r) es ∙ field_comm (bit_xor a b) r)
    ∙ (λ t. bit_xor (ea t) (mul r (bit_xor (ea t) (eb t))))
    ∙ sym (get_or_append_left (fold_low r xs) (tabulate (length xs / 2) (λ _. 0)) 0 i (let n = length-half r xs h in omega arith) ∙ get_or-fold_low r i xs (omega arith)))
    en u

right : (xs ys : List ℕ) (k : ℕ) → length xs ≤ k → get_or (xs ++ ys) k 0 ≡ get_or ys (k - length xs) 0
right [] ys k h = let e : k ≡ k - 0 = omega arith in ap (λ k. get_or ys k 0) e
right (x ∷ xs) ys zero h = absurd (omega arith)
right (x ∷ xs) ys (suc k) h = let e : k - length xs ≡ suc k - suc (length xs) = omega arith in right xs ys k (omega arith) ∙ ap (λ k. get_or ys k 0) e

pub all_folded : (i n r : ℕ) (xs old now : List ℕ) → length xs % 2 ≡ 0 → length xs / 2 ≤ i → old ≡ tabulate n (λ _. 0) → Until i (folded r xs) old now → now ≡ folded r xs
all_folded i n r xs old now h l e u =
    ended_at i (folded r xs) old now (λ k m.
    ap (λ o. get_or o k 0) e ∙ zeros_at n k
    ∙ sym (right (fold_low r xs) (tabulate (length xs / 2) (λ _. 0)) k (let n = length-half r xs h in omega arith) ∙ zeros_at (length xs / 2) (k - length (fold_low r xs)))) u
