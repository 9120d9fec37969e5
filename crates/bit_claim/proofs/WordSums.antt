-- Tables that are products of low and high parts, against bits in words.
use Rattle.std.proofs.Common.{◌≡◌, ℕ, zero, suc, ◌+◌, ◌-◌, ◌*◌, ◌/◌, ◌%◌, ◌^◌, ◌<◌, ◌≤◌, List, [], ◌∷◌, ◌++◌, length, map, take, drop, bit_xor, refl, sym, ap, subst, ◌∙◌, inl, inr, arith}
use Rattle.std.proofs.lemmas.Bool.{cases_lt}
use Rattle.std.proofs.lemmas.List.{append_assoc, drop_all, length-append, length-map, length-take-le, take-append-drop}
use Rattle.std.proofs.Math.Nat.{div-div-eq-div-mul}
use Rattle.std.specs.List.{AllByRecursion}
use Rattle.tower_laws.specs.Tower.{mul}
use Rattle.tower_laws.specs.Lists.{sums}
use Rattle.tower_laws.proofs.Field.{identity, field_terms}
use Rattle.tower_laws.proofs.Levels.{field_one}
use Rattle.tower_laws.proofs.Rules.{times_one}
use Rattle.poly_laws.specs.Polynomial.{horner}
use Rattle.cube_laws.specs.Extension.{bit, bits_of, dot, extension, fold_all, fold_low, kron, spread, weights}
use Rattle.cube_laws.specs.SumClaim.{AllLong}
use Rattle.cube_laws.specs.Sums.{tabulate}
use Rattle.cube_laws.proofs.Coordinates.{fold_all_is, length-fold_all, map_none}
use Rattle.cube_laws.proofs.Folding.{dot-even, length-fold_low, length-weights}
use Rattle.cube_laws.proofs.Kron.{spread-append, spread-scaled, weights-joined}
use Rattle.cube_laws.proofs.Weights.{by_weights_is, length-tabulate}
use Rattle.batch_laws.specs.Batch.{batched}
use Rattle.batch_laws.proofs.Batching.{dot-batched, length-batched}
use Rattle.batch_laws.proofs.Parts.{dot_part}
use Rattle.batch_laws.proofs.Zeros.{fold_low-zeros}
use Rattle.column_laws.specs.Columns.{placed}
use Rattle.column_laws.proofs.Placing.{length-placed}
use Rattle.tensor_laws.specs.Tensor.{bits_of_table, column}
use Rattle.tensor_laws.proofs.Crossing.{columns_at, dot-kron}
use Rattle.bit_claim.specs.Words.{high_part, low_part, rest_of}

-- ---- products of three tables
kron-append : (ts es us : List ℕ) → kron ts (es ++ us) ≡ kron ts es ++ kron ts us
kron-append ts [] us = refl
kron-append ts (e ∷ es) us = ap (λ l. map (λ t. mul t e) ts ++ l) (kron-append ts es us) ∙ sym (append_assoc (map (λ t. mul t e) ts) (kron ts es) (kron ts us))

map-append : (f : ℕ → ℕ) (xs ys : List ℕ) → map f (xs ++ ys) ≡ map f xs ++ map f ys
map-append f [] ys = refl
map-append f (x ∷ xs) ys = ap (λ l. f x ∷ l) (map-append f xs ys)

times_twice : (t b c : ℕ) → mul (mul t b) c ≡ mul t (mul b c)
times_twice t b c = identity (t ∷ b ∷ c ∷ []) (search field_terms depth 60 fits 20000) refl

scaled_twice : (b c : ℕ) (ts : List ℕ) → map (λ t. mul t c) (map (λ t. mul t b) ts) ≡ map (λ t. mul t (mul b c)) ts
scaled_twice b c [] = refl
scaled_twice b c (t ∷ ts) = λ i. times_twice t b c i ∷ scaled_twice b c ts i

kron-scaled : (c : ℕ) (ts es : List ℕ) → map (λ t. mul t c) (kron ts es) ≡ kron ts (map (λ e. mul e c) es)
kron-scaled c ts [] = refl
kron-scaled c ts (e ∷ es) = map-append (λ t. mul t c) (map (λ t. mul t e) ts) (kron ts es) ∙ (λ i. scaled_twice e c ts i ++ kron-scaled c ts es i)

kron-assoc : (ts es us : List ℕ) → kron (kron ts es) us ≡ kron ts (kron es us)
kron-assoc ts es [] = refl
kron-assoc ts es (u ∷ us) = (λ i. kron-scaled u ts es i ++ kron-assoc ts es us i) ∙ sym (kron-append ts (map (λ e. mul e u) es) (kron es us))

times_ones : (ts : List ℕ) → map (λ t. mul t 1) ts ≡ ts
times_ones [] = refl
times_ones (t ∷ ts) = λ i. times_one t i ∷ times_ones ts i

append-none : (xs : List ℕ) → xs ++ [] ≡ xs
append-none [] = refl
append-none (x ∷ xs) = ap (λ l. x ∷ l) (append-none xs)

kron-one : (ts : List ℕ) → kron ts (1 ∷ []) ≡ ts
kron-one ts = append-none (map (λ t. mul t 1) ts) ∙ times_ones ts

pub one-kron : (es : List ℕ) → kron (1 ∷ []) es ≡ es
one-kron [] = refl
one-kron (e ∷ es) = λ i. field_one e i ∷ one-kron es i

-- ---- a claim's table as a product of a part for the k lowest variables and one for the others
bits_of-add : (m n q : ℕ) → bits_of (m + n) q ≡ bits_of m q ++ bits_of n (q / 2 ^ m)
bits_of-add zero n q =
    let e : 0 + n ≡ n = omega arith in
    let whole : q ≡ q / 1 = omega arith in
    λ i. bits_of (e i) (whole i)
bits_of-add (suc m) n q =
    let e : suc m + n ≡ suc (m + n) = omega arith in
    let p : 2 * 2 ^ m ≡ 2 ^ suc m = omega arith in
    ap (λ s. bits_of s q) e ∙ ap (λ l. q % 2 ∷ l) (bits_of-add m n (q / 2))
    ∙ ap (λ r. q % 2 ∷ (bits_of m (q / 2) ++ bits_of n r)) (div-div-eq-div-mul q 2 (2 ^ m) ∙ ap (λ w. q / w) p)

abbrev powers : ℕ → List ℕ
powers i = tabulate (2 ^ i) (λ u. 2 ^ u)

pub placed_in_parts : (k i g q : ℕ) (z : List ℕ) → i ≤ k → k ≤ i + length z + g → placed i z g q ≡ kron (low_part k i z q) (high_part k i z g q)
placed_in_parts k i g q z low all = elim (cases_lt (i + length z) k) [
  | inl lt ↦ narrow lt
  | inr le ↦ wide le
]
  where
    d : ℕ
    d = rest_of k i z

    wide : k ≤ i + length z → placed i z g q ≡ kron (low_part k i z q) (high_part k i z g q)
    wide le =
        let none : 0 ≡ rest_of k i z = omega arith in
        let first = take (k - i) z in
        let others = drop (k - i) z in
        let whole : q ≡ q / 1 = omega arith in
        let same : g ≡ g - 0 = omega arith in
        ap (λ y. placed i y g q) (sym (take-append-drop (k - i) z))
        ∙ ap (λ w. kron (kron (powers i) w) (weights (bits_of g q))) (weights-joined first others)
        ∙ ap (λ l. kron l (weights (bits_of g q))) (sym (kron-assoc (powers i) (weights first) (weights others)))
        ∙ kron-assoc (kron (powers i) (weights first)) (weights others) (weights (bits_of g q))
        ∙ (λ t. kron (sym (kron-one (kron (powers i) (weights first))) t) (kron (weights others) (weights (bits_of (same t) (whole t)))))
        ∙ ap (λ e. kron (placed i first e q) (kron (weights others) (weights (bits_of (g - e) (q / 2 ^ e))))) none

    narrow : i + length z < k → placed i z g q ≡ kron (low_part k i z q) (high_part k i z g q)
    narrow lt =
        let r = rest_of k i z in
        let sum : g ≡ r + (g - r) = omega arith in
        let short : length z ≤ k - i = omega arith in
        let none : drop (k - i) z ≡ [] = drop_all (k - i) z short in
        let same : take (k - i) z ≡ z = sym (append-none (take (k - i) z)) ∙ ap (λ l. take (k - i) z ++ l) (sym none) ∙ take-append-drop (k - i) z in
        let bits = weights (bits_of (g - r) (q / 2 ^ r)) in
        ap (λ n. kron (kron (powers i) (weights z)) (weights (bits_of n q))) sum
        ∙ ap (λ bs. kron (kron (powers i) (weights z)) (weights bs)) (bits_of-add r (g - r) q)
        ∙ ap (kron (kron (powers i) (weights z))) (weights-joined (bits_of r q) (bits_of (g - r) (q / 2 ^ r)))
        ∙ sym (kron-assoc (kron (powers i) (weights z)) (weights (bits_of r q)) bits)
        ∙ (λ t. kron (placed i (sym same t) r q) (sym (one-kron bits) t))
        ∙ ap (λ y. kron (low_part k i z q) (kron (weights y) bits)) (sym none)

pub length-low_part : (k i q : ℕ) (z : List ℕ) → i ≤ k → length (low_part k i z q) ≡ 2 ^ k
length-low_part k i q z low = elim (cases_lt (length z) (k - i)) [
  | inl lt ↦
      let none = drop_all (k - i) z (omega arith) in
      let same : take (k - i) z ≡ z = sym (append-none (take (k - i) z)) ∙ ap (λ l. take (k - i) z ++ l) (sym none) ∙ take-append-drop (k - i) z in
      let all : i + length z + (k - (i + length z)) ≡ k = omega arith in
      length-placed i (rest_of k i z) q (take (k - i) z) ∙ ap (λ y. 2 ^ (i + length y + rest_of k i z)) same ∙ ap (λ n. 2 ^ n) all
  | inr le ↦
      let first : length (take (k - i) z) ≡ k - i = length-take-le (k - i) z le in
      let all : i + (k - i) + (k - (i + length z)) ≡ k = omega arith in
      length-placed i (rest_of k i z) q (take (k - i) z) ∙ ap (λ m. 2 ^ (i + m + rest_of k i z)) first ∙ ap (λ n. 2 ^ n) all
]

-- ---- folds against weights
abbrev pub spread_all : List ℕ → List ℕ → List ℕ
spread_all [] ts = ts
spread_all (r ∷ rs) ts = spread r (spread_all rs ts)

twice_in : (l k : ℕ) → 2 * (l * 2 ^ k) ≡ l * 2 ^ suc k
twice_in l k =
    let p : 2 * 2 ^ k ≡ 2 ^ suc k = omega arith in
    let q : 2 * (l * 2 ^ k) ≡ l * (2 * 2 ^ k) = grind arith in
    q ∙ ap (λ w. l * w) p

length-spread : (x : ℕ) (ts : List ℕ) → length (spread x ts) ≡ 2 * length ts
length-spread x [] = refl
length-spread x (t ∷ ts) = let h = length-spread x ts in omega (arith, h)

length-spread_all : (rs ts : List ℕ) → length (spread_all rs ts) ≡ length ts * 2 ^ length rs
length-spread_all [] ts = let e : length ts ≡ length ts * 1 = omega arith in e
length-spread_all (r ∷ rs) ts = length-spread r (spread_all rs ts) ∙ ap (λ n. 2 * n) (length-spread_all rs ts) ∙ twice_in (length ts) (length rs)

pub dot_folded : (m : ℕ) (rs table ts : List ℕ) → length table ≡ m * 2 ^ length rs → dot table (spread_all rs ts) ≡ dot (fold_all rs table) ts
dot_folded m [] table ts h = refl
dot_folded m (r ∷ rs) table ts h =
    let e : length table ≡ 2 * (m * 2 ^ length rs) = h ∙ sym (twice_in m (length rs)) in
    dot-even r (m * 2 ^ length rs) table (spread_all rs ts) e ∙ dot_folded m rs (fold_low r table) ts (length-fold_low r (m * 2 ^ length rs) table e)

spread-kron : (x : ℕ) (ts es : List ℕ) → spread x (kron ts es) ≡ kron (spread x ts) es
spread-kron x ts [] = refl
spread-kron x ts (e ∷ es) = spread-append x (map (λ t. mul t e) ts) (kron ts es) ∙ (λ i. spread-scaled x e ts i ++ spread-kron x ts es i)

spread_all-kron : (rs ts es : List ℕ) → spread_all rs (kron ts es) ≡ kron (spread_all rs ts) es
spread_all-kron [] ts es = refl
spread_all-kron (r ∷ rs) ts es = ap (spread r) (spread_all-kron rs ts es) ∙ spread-kron r (spread_all rs ts) es

-- ---- folds of products
fold_low-append : (r half : ℕ) (xs ys : List ℕ) → length xs ≡ 2 * half → fold_low r (xs ++ ys) ≡ fold_low r xs ++ fold_low r ys
fold_low-append r half [] ys h = refl
fold_low-append r half (a ∷ []) ys h = absurd (omega arith)
fold_low-append r half (a ∷ b ∷ xs) ys h = ap (λ l. bit_xor a (mul r (bit_xor a b)) ∷ l) (fold_low-append r (half - 1) xs ys (omega arith))

pub fold_all-append_low : (m : ℕ) (rs xs ys : List ℕ) → length xs ≡ m * 2 ^ length rs → fold_all rs (xs ++ ys) ≡ fold_all rs xs ++ fold_all rs ys
fold_all-append_low m [] xs ys h = refl
fold_all-append_low m (r ∷ rs) xs ys h =
    let e : length xs ≡ 2 * (m * 2 ^ length rs) = h ∙ sym (twice_in m (length rs)) in
    ap (fold_all rs) (fold_low-append r (m * 2 ^ length rs) xs ys e) ∙ fold_all-append_low m rs (fold_low r xs) (fold_low r ys) (length-fold_low r (m * 2 ^ length rs) xs e)

scaled_line : (r e a b : ℕ) → bit_xor (mul a e) (mul r (bit_xor (mul a e) (mul b e))) ≡ mul (bit_xor a (mul r (bit_xor a b))) e
scaled_line r e a b = identity (r ∷ e ∷ a ∷ b ∷ []) (search field_terms depth 60 fits 20000) refl

fold_low-scaled : (r e : ℕ) (ts : List ℕ) → fold_low r (map (λ t. mul t e) ts) ≡ map (λ t. mul t e) (fold_low r ts)
fold_low-scaled r e [] = refl
fold_low-scaled r e (a ∷ []) = refl
fold_low-scaled r e (a ∷ b ∷ ts) = λ i. scaled_line r e a b i ∷ fold_low-scaled r e ts i

fold_low-kron : (r half : ℕ) (ts es : List ℕ) → length ts ≡ 2 * half → fold_low r (kron ts es) ≡ kron (fold_low r ts) es
fold_low-kron r half ts [] h = refl
fold_low-kron r half ts (e ∷ es) h =
    fold_low-append r half (map (λ t. mul t e) ts) (kron ts es) (length-map ts (λ t. mul t e) ∙ h)
    ∙ (λ i. fold_low-scaled r e ts i ++ fold_low-kron r half ts es h i)

pub fold_all-kron : (m : ℕ) (rs ts es : List ℕ) → length ts ≡ m * 2 ^ length rs → fold_all rs (kron ts es) ≡ kron (fold_all rs ts) es
fold_all-kron m [] ts es h = refl
fold_all-kron m (r ∷ rs) ts es h =
    let e : length ts ≡ 2 * (m * 2 ^ length rs) = h ∙ sym (twice_in m (length rs)) in
    ap (fold_all rs) (fold_low-kron r (m * 2 ^ length rs) ts es e) ∙ fold_all-kron m rs (fold_low r ts) es (length-fold_low r (m * 2 ^ length rs) ts e)

-- ---- sums over words
pub length-bits_of_table : (n : ℕ) (table : List ℕ) → length (bits_of_table n table) ≡ length table * n
length-bits_of_table n [] = omega arith
length-bits_of_table n (t ∷ table) =
    let more : suc (length table) * n ≡ n + length table * n = grind (arith) in
    length-append (tabulate n (bit t)) (bits_of_table n table) ∙ (λ i. length-tabulate n (bit t) i + length-bits_of_table n table i) ∙ sym more

times_assoc : (a b c : ℕ) → a * (b * c) ≡ a * b * c
times_assoc a b c = grind arith

-- a table that is a product, against the bits of words: the low part against the sums of the high part's numbers whose word has each bit
pub part_summed : (n m : ℕ) (rs words low high : List ℕ) → n ≡ m * 2 ^ length rs → length low ≡ n → dot (fold_all rs (bits_of_table n words)) (fold_all rs (kron low high)) ≡ dot (fold_all rs (tabulate n (column high words))) (fold_all rs low)
part_summed n m rs words low high h l =
    let e : length low ≡ m * 2 ^ length rs = l ∙ h in
    let ws = spread_all rs (fold_all rs low) in
    let wl : length ws ≡ n = length-spread_all rs (fold_all rs low) ∙ ap (λ k. k * 2 ^ length rs) (length-fold_all m rs low e) ∙ sym h in
    let long : length (bits_of_table n words) ≡ length words * m * 2 ^ length rs = length-bits_of_table n words ∙ ap (λ k. length words * k) h ∙ times_assoc (length words) m (2 ^ length rs) in
    ap (dot (fold_all rs (bits_of_table n words))) (fold_all-kron m rs low high e)
    ∙ sym (dot_folded (length words * m) rs (bits_of_table n words) (kron (fold_all rs low) high) long)
    ∙ ap (dot (bits_of_table n words)) (spread_all-kron rs (fold_all rs low) high)
    ∙ dot-kron n words ws high wl
    ∙ sym (columns_at n high words ws)
    ∙ dot_folded m rs (tabulate n (column high words)) (fold_all rs low) (length-tabulate n (column high words) ∙ h)

-- a batch of tables against a table: the batch of each against it
pub batch_summed : (size m lambda : ℕ) (rs table : List ℕ) (ts : List (List ℕ)) → AllLong size ts → size ≡ m * 2 ^ length rs
    → dot (fold_all rs (batched size lambda ts)) (fold_all rs table) ≡ horner (map (λ t. dot (fold_all rs t) (fold_all rs table)) ts) lambda
batch_summed size m lambda rs table ts long h =
    sym (dot_folded m rs (batched size lambda ts) (fold_all rs table) (length-batched size lambda ts long ∙ h))
    ∙ dot-batched size lambda ts (spread_all rs (fold_all rs table))
    ∙ ap (λ l. horner l lambda) (each ts long)
  where
    each : (ts : List (List ℕ)) → AllLong size ts → map (λ t. dot t (spread_all rs (fold_all rs table))) ts ≡ map (λ t. dot (fold_all rs t) (fold_all rs table)) ts
    each [] l = refl
    each (t ∷ ts) l = λ i. dot_folded m rs t (fold_all rs table) (l.0 ∙ h) i ∷ each ts l.1 i

-- ---- tables multiplied by a number, and what the last fold leaves
each_once : (c : ℕ) (es : List ℕ) → kron (c ∷ []) es ≡ map (mul c) es
each_once c [] = refl
each_once c (e ∷ es) = ap (λ l. mul c e ∷ l) (each_once c es)

-- once the low part's variables are set, the high part times the low part's extension
pub kron_set : (rs low high : List ℕ) → length low ≡ 2 ^ length rs → fold_all rs (kron low high) ≡ map (mul (extension low rs)) high
kron_set rs low high l =
    fold_all-kron 1 rs low high (l ∙ one_time (2 ^ length rs)) ∙ ap (λ ts. kron ts high) (fold_all_is low rs l) ∙ each_once (extension low rs) high
  where
    one_time : (n : ℕ) → n ≡ 1 * n
    one_time n = omega arith

nothing_folded : (rs : List ℕ) → fold_all rs [] ≡ []
nothing_folded [] = refl
nothing_folded (r ∷ rs) = nothing_folded rs

-- and of each word the sum of the weights of its bits
pub bits_set : (rs words : List ℕ) → fold_all rs (bits_of_table (2 ^ length rs) words) ≡ map (λ t. dot (tabulate (2 ^ length rs) (bit t)) (weights rs)) words
bits_set rs [] = nothing_folded rs
bits_set rs (t ∷ words) =
    let l : length (tabulate (2 ^ length rs) (bit t)) ≡ 2 ^ length rs = length-tabulate (2 ^ length rs) (bit t) in
    let one : 2 ^ length rs ≡ 1 * 2 ^ length rs = omega arith in
    fold_all-append_low 1 rs (tabulate (2 ^ length rs) (bit t)) (bits_of_table (2 ^ length rs) words) (l ∙ one)
    ∙ (λ i. fold_all_is (tabulate (2 ^ length rs) (bit t)) rs l i ++ bits_set rs words i)
    ∙ ap (λ v. v ∷ map (λ t. dot (tabulate (2 ^ length rs) (bit t)) (weights rs)) words) (sym (by_weights_is (tabulate (2 ^ length rs) (bit t)) rs))

-- ---- folds of a batch
fold_low-sums : (r half : ℕ) (xs ys : List ℕ) → length xs ≡ 2 * half → length ys ≡ 2 * half → fold_low r (sums xs ys) ≡ sums (fold_low r xs) (fold_low r ys)
fold_low-sums r half [] [] h k = refl
fold_low-sums r half [] (b ∷ ys) h k = absurd (omega arith)
fold_low-sums r half (a ∷ []) ys h k = absurd (omega arith)
fold_low-sums r half (a ∷ c ∷ xs) [] h k = absurd (omega arith)
fold_low-sums r half (a ∷ c ∷ xs) (b ∷ []) h k = absurd (omega arith)
fold_low-sums r half (a ∷ c ∷ xs) (b ∷ d ∷ ys) h k = λ i. line_sum r a b c d i ∷ fold_low-sums r (half - 1) xs ys (omega arith) (omega arith) i
  where
    line_sum : (r a b c d : ℕ) → bit_xor (bit_xor a b) (mul r (bit_xor (bit_xor a b) (bit_xor c d))) ≡ bit_xor (bit_xor a (mul r (bit_xor a c))) (bit_xor b (mul r (bit_xor b d)))
    line_sum r a b c d = identity (r ∷ a ∷ b ∷ c ∷ d ∷ []) (search field_terms depth 60 fits 20000) refl

pub fold_low-times : (r c : ℕ) (ts : List ℕ) → fold_low r (map (mul c) ts) ≡ map (mul c) (fold_low r ts)
fold_low-times r c [] = refl
fold_low-times r c (a ∷ []) = refl
fold_low-times r c (a ∷ b ∷ ts) = λ i. line_times r c a b i ∷ fold_low-times r c ts i
  where
    line_times : (r c a b : ℕ) → bit_xor (mul c a) (mul r (bit_xor (mul c a) (mul c b))) ≡ mul c (bit_xor a (mul r (bit_xor a b)))
    line_times r c a b = identity (r ∷ c ∷ a ∷ b ∷ []) (search field_terms depth 60 fits 20000) refl

fold_low-batched : (r half lambda : ℕ) (ts : List (List ℕ)) → AllLong (2 * half) ts → fold_low r (batched (2 * half) lambda ts) ≡ batched half lambda (map (fold_low r) ts)
fold_low-batched r half lambda [] h = fold_low-zeros r half
fold_low-batched r half lambda (t ∷ ts) h =
    fold_low-sums r half t (map (mul lambda) (batched (2 * half) lambda ts)) h.0 (length-map (batched (2 * half) lambda ts) (mul lambda) ∙ length-batched (2 * half) lambda ts h.1)
    ∙ ap (sums (fold_low r t)) (fold_low-times r lambda (batched (2 * half) lambda ts) ∙ ap (map (mul lambda)) (fold_low-batched r half lambda ts h.1))

long_once : (r half : ℕ) (ts : List (List ℕ)) → AllLong (2 * half) ts → AllLong half (map (fold_low r) ts)
long_once r half [] h = tt
long_once r half (t ∷ ts) h = (length-fold_low r half t h.0, long_once r half ts h.1)

folds_next : (r : ℕ) (rs : List ℕ) (ts : List (List ℕ)) → map (fold_all rs) (map (fold_low r) ts) ≡ map (fold_all (r ∷ rs)) ts
folds_next r rs [] = refl
folds_next r rs (t ∷ ts) = ap (λ l. fold_all (r ∷ rs) t ∷ l) (folds_next r rs ts)

pub batched_set : (m lambda : ℕ) (rs : List ℕ) (ts : List (List ℕ)) → AllLong (m * 2 ^ length rs) ts → fold_all rs (batched (m * 2 ^ length rs) lambda ts) ≡ batched m lambda (map (fold_all rs) ts)
batched_set m lambda [] ts h = let one : m * 1 ≡ m = omega arith in ap (λ n. batched n lambda ts) one ∙ ap (batched m lambda) (map_none ts)
batched_set m lambda (r ∷ rs) ts h =
    let e : m * 2 ^ suc (length rs) ≡ 2 * (m * 2 ^ length rs) = sym (twice_in m (length rs)) in
    let k = subst (λ n. AllLong n ts) e h in
    ap (λ n. fold_all rs (fold_low r (batched n lambda ts))) e
    ∙ ap (fold_all rs) (fold_low-batched r (m * 2 ^ length rs) lambda ts k)
    ∙ batched_set m lambda rs (map (fold_low r) ts) (long_once r (m * 2 ^ length rs) ts k)
    ∙ ap (batched m lambda) (folds_next r rs ts)

-- ---- words of one block
map-take : (f : ℕ → ℕ) (n : ℕ) (xs : List ℕ) → map f (take n xs) ≡ take n (map f xs)
map-take f zero xs = refl
map-take f (suc n) [] = refl
map-take f (suc n) (x ∷ xs) = ap (λ l. f x ∷ l) (map-take f n xs)

map-drop : (f : ℕ → ℕ) (n : ℕ) (xs : List ℕ) → map f (drop n xs) ≡ drop n (map f xs)
map-drop f zero xs = refl
map-drop f (suc n) [] = refl
map-drop f (suc n) (x ∷ xs) = map-drop f n xs

-- a corner takes the words of its block
pub column_part : (g q v : ℕ) (ws words : List ℕ) → q < 2 ^ g → column (kron ws (weights (bits_of g q))) words v ≡ column ws (take (length ws) (drop (q * length ws) words)) v
column_part g q v ws words l =
    dot_part g q (map (λ t. bit t v) words) ws l
    ∙ ap (λ bs. dot bs ws) (sym (map-take (λ t. bit t v) (length ws) (drop (q * length ws) words) ∙ ap (take (length ws)) (map-drop (λ t. bit t v) (q * length ws) words)))

-- the sums for a claim are those over the words of its block
pub column_of_block : (k i g q v : ℕ) (z words : List ℕ) → q / 2 ^ rest_of k i z < 2 ^ (g - rest_of k i z)
    → column (high_part k i z g q) words v ≡ column (weights (drop (k - i) z)) (take (2 ^ length (drop (k - i) z)) (drop (q / 2 ^ rest_of k i z * 2 ^ length (drop (k - i) z)) words)) v
column_of_block k i g q v z words l =
    let ws = weights (drop (k - i) z) in
    column_part (g - rest_of k i z) (q / 2 ^ rest_of k i z) v ws words l
    ∙ ap (λ n. column ws (take n (drop (q / 2 ^ rest_of k i z * n) words)) v) (length-weights (drop (k - i) z))

-- a batch of products once the low parts' variables are set
pub batch_of_high : {X : Type 0} (low high : X → List ℕ) (m lambda : ℕ) (rs : List ℕ) (cs : List X) → AllByRecursion (λ c. length (low c) ≡ 2 ^ length rs) cs → AllLong (m * 2 ^ length rs) (map (λ c. kron (low c) (high c)) cs)
    → fold_all rs (batched (m * 2 ^ length rs) lambda (map (λ c. kron (low c) (high c)) cs)) ≡ batched m lambda (map (λ c. map (mul (extension (low c) rs)) (high c)) cs)
batch_of_high {X} low high m lambda rs cs lows long = batched_set m lambda rs (map (λ c. kron (low c) (high c)) cs) long ∙ ap (batched m lambda) (all_set cs lows)
  where
    all_set : (cs : List X) → AllByRecursion (λ c. length (low c) ≡ 2 ^ length rs) cs → map (fold_all rs) (map (λ c. kron (low c) (high c)) cs) ≡ map (λ c. map (mul (extension (low c) rs)) (high c)) cs
    all_set [] h = refl
    all_set (c ∷ cs) h = λ i. kron_set rs (low c) (high c) h.0 i ∷ all_set cs h.1 i
