-- Sums over buckets of bytes.
use Rattle.std.proofs.Common.{◌≡◌, ◌≢◌, ℕ, zero, suc, ◌+◌, ◌-◌, ◌*◌, ◌/◌, ◌%◌, ◌^◌, ◌<◌, List, [], ◌∷◌, length, get_or, bit_xor, refl, sym, ◌∙◌, ap, arith, zero-add, le_refl}
use Rattle.std.proofs.Math.Nat.{pow-suc}
use Rattle.std.proofs.lemmas.Nat.{shr-shr}
use Rattle.std.proofs.lemmas.Nat.Bits.{bit_at_cat_low, bit_at_cat_high, bit_at_above}
use Rattle.tower_laws.specs.Tower.{mul}
use Rattle.tower_laws.proofs.Levels.{field_zero, field_one, field_comm, field_add}
use Rattle.tower_laws.proofs.Rules.{field_add_r, plus_zero}
use Rattle.tower_laws.proofs.Field.{identity, field_terms}
use Rattle.cube_laws.specs.Sums.{sum_to, tabulate}
use Rattle.cube_laws.specs.Extension.{bit, dot}
use Rattle.cube_laws.proofs.Dots.{sum_to-plus, sum_to-zeros}
use Rattle.cube_laws.proofs.Weights.{sum_to-same}
use Rattle.cube_laws.proofs.Tabulate.{entries, get_or-tabulate}
use Rattle.tower_laws.specs.Lists.{AllFit}
use Rattle.tensor_laws.specs.Tensor.{column}
use Rattle.column_laws.proofs.Powers.{number_is}
use Rattle.packed_words.specs.Bytes.{bucket, byte_of, is_byte}

pub is_byte_same : (b : ℕ) → is_byte b b ≡ 1
unfolding is_byte
is_byte_same zero = refl
is_byte_same (suc b) = is_byte_same b

pub is_byte_other : (b a : ℕ) → b ≢ a → is_byte b a ≡ 0
unfolding is_byte
is_byte_other zero zero h = absurd (h refl)
is_byte_other zero (suc a) h = refl
is_byte_other (suc b) zero h = refl
is_byte_other (suc b) (suc a) h = is_byte_other b a (λ e. h (ap suc e))

pub nothing_plus : (a : ℕ) → bit_xor 0 a ≡ a
nothing_plus a = identity (a ∷ []) (search field_terms depth 60 fits 20000) refl

-- ---- one number among those below n
times_nothing : (f e : ℕ) → mul f (mul 0 e) ≡ 0
times_nothing f e = ap (mul f) (field_zero e) ∙ field_comm f 0 ∙ field_zero f

one_among : (n x e : ℕ) (f : ℕ → ℕ) → x < n → sum_to n (λ b. mul (f b) (mul (is_byte b x) e)) ≡ mul (f x) e
unfolding is_byte
one_among zero x e f h = absurd (omega arith)
one_among (suc n) zero e f h =
    (λ i. bit_xor (mul (f 0) (field_one e i)) ((sum_to-same n (λ b. mul (f (suc b)) (mul 0 e)) (λ b. 0) (λ b l. times_nothing (f (suc b)) e) ∙ sum_to-zeros n) i)) ∙ plus_zero (mul (f 0) e)
one_among (suc n) (suc x) e f h = (λ i. bit_xor (times_nothing (f 0) e i) (one_among n x e (λ b. f (suc b)) (omega arith) i)) ∙ nothing_plus (mul (f (suc x)) e)

byte_lt : (i w : ℕ) → byte_of i w < 256
byte_lt i w = omega arith

bit_of_byte : (i k w : ℕ) → k < 8 → bit (byte_of i w) k ≡ bit w (8 * i + k)
bit_of_byte i k w h =
    let n : ℕ = w / 2 ^ (8 * i) in
    let e : n / 2 ^ 8 * 2 ^ 8 + n % 2 ^ 8 ≡ n = omega arith in
    sym (bit_at_cat_low (n / 2 ^ 8) 8 (n % 2 ^ 8) k h) ∙ ap (λ m. bit m k) e ∙ ap (λ m. m % 2) (shr-shr w (8 * i) k)

split_step : (m a b : ℕ) → mul m (bit_xor a b) ≡ bit_xor (mul m a) (mul m b)
split_step m a b = field_add_r m a b

-- the buckets of the bytes with bit k hold the sum for bit 8 i + k
pub bucket_bits : (i k : ℕ) (words es : List ℕ) → k < 8 → sum_to 256 (λ b. mul (bit b k) (bucket i b words es)) ≡ column es words (8 * i + k)
bucket_bits i k [] es h = sum_to-same 256 (λ b. mul (bit b k) 0) (λ b. 0) (λ b l. field_comm (bit b k) 0 ∙ field_zero (bit b k)) ∙ sum_to-zeros 256
bucket_bits i k (w ∷ words) [] h = sum_to-same 256 (λ b. mul (bit b k) 0) (λ b. 0) (λ b l. field_comm (bit b k) 0 ∙ field_zero (bit b k)) ∙ sum_to-zeros 256
bucket_bits i k (w ∷ words) (e ∷ es) h =
    sum_to-same 256 (λ b. mul (bit b k) (bit_xor (mul (is_byte b (byte_of i w)) e) (bucket i b words es)))
    (λ b. bit_xor (mul (bit b k) (mul (is_byte b (byte_of i w)) e)) (mul (bit b k) (bucket i b words es))) (λ b l. split_step (bit b k) (mul (is_byte b (byte_of i w)) e) (bucket i b words es))
    ∙ sum_to-plus 256 (λ b. mul (bit b k) (mul (is_byte b (byte_of i w)) e)) (λ b. mul (bit b k) (bucket i b words es))
    ∙ (λ t. bit_xor (first t) (bucket_bits i k words es h t))
  where
    first : sum_to 256 (λ b. mul (bit b k) (mul (is_byte b (byte_of i w)) e)) ≡ mul (bit w (8 * i + k)) e
    first = one_among 256 (byte_of i w) e (λ b. bit b k) (byte_lt i w) ∙ ap (λ d. mul d e) (bit_of_byte i k w h)

-- ---- halves of sums
pub sum_to-add : (m n : ℕ) (f : ℕ → ℕ) → sum_to (m + n) f ≡ bit_xor (sum_to m f) (sum_to n (λ b. f (m + b)))
sum_to-add zero n f = let z = zero-add n in ap (λ n. sum_to n f) z ∙ sum_to-same n f (λ b. f (zero + b)) (λ b l. ap f (sym (zero-add b))) ∙ sym (nothing_plus _)
sum_to-add (suc m) n f =
    let e : suc m + n ≡ suc (m + n) = omega arith in
    ap (λ k. sum_to k f) e ∙ ap (bit_xor (f 0)) (sum_to-add m n (λ b. f (suc b)) ∙ ap (bit_xor (sum_to m (λ b. f (suc b)))) (sum_to-same n (λ b. f (suc (m + b))) (λ b. f (suc m + b)) (λ b l. let q : suc (m + b) ≡ suc m + b = omega arith in ap f q)))
    ∙ assoc (f 0) (sum_to m (λ b. f (suc b))) (sum_to n (λ b. f (suc m + b)))
  where
    assoc : (a b c : ℕ) → bit_xor a (bit_xor b c) ≡ bit_xor (bit_xor a b) c
    assoc a b c = identity (a ∷ b ∷ c ∷ []) (search field_terms depth 60 fits 20000) refl

-- ---- of the numbers below 2 ^ (k + 1) those with bit k are the upper half
lower_bit : (k b : ℕ) → b < 2 ^ k → bit b k ≡ 0
lower_bit k b h = bit_at_above b k k h (le_refl k)

upper_bit : (k b : ℕ) → b < 2 ^ k → bit (2 ^ k + b) k ≡ 1
upper_bit k b h =
    let e : 2 ^ k + b ≡ 1 * 2 ^ k + b = omega arith in
    let z : k - k ≡ 0 = omega arith in
    ap (λ n. bit n k) e ∙ bit_at_cat_high 1 k b k h (le_refl k) ∙ ap (bit 1) z

same_lower_bit : (j k b : ℕ) → j < k → bit (2 ^ k + b) j ≡ bit b j
same_lower_bit j k b h =
    let e : 2 ^ k + b ≡ 1 * 2 ^ k + b = omega arith in
    ap (λ n. bit n j) e ∙ bit_at_cat_low 1 k b j h

abbrev halves : ℕ → (ℕ → ℕ) → ℕ
halves k g = bit_xor (sum_to (2 ^ k) g) (sum_to (2 ^ k) (λ b. g (2 ^ k + b)))

in_halves : (k : ℕ) (g : ℕ → ℕ) → sum_to (2 ^ suc k) g ≡ halves k g
in_halves k g = let e : 2 ^ suc k ≡ 2 ^ k + 2 ^ k = omega (arith, pow-suc 2 k) in ap (λ n. sum_to n g) e ∙ sum_to-add (2 ^ k) (2 ^ k) g

pub upper_half : (k : ℕ) (f : ℕ → ℕ) → sum_to (2 ^ suc k) (λ b. mul (bit b k) (f b)) ≡ sum_to (2 ^ k) (λ b. f (2 ^ k + b))
upper_half k f =
    in_halves k (λ b. mul (bit b k) (f b))
    ∙ (λ t. bit_xor
    ((sum_to-same (2 ^ k) (λ b. mul (bit b k) (f b)) (λ b. 0) (λ b l. ap (λ d. mul d (f b)) (lower_bit k b l) ∙ field_zero (f b)) ∙ sum_to-zeros (2 ^ k)) t)
    (sum_to-same (2 ^ k) (λ b. mul (bit (2 ^ k + b) k) (f (2 ^ k + b))) (λ b. f (2 ^ k + b)) (λ b l. ap (λ d. mul d (f (2 ^ k + b))) (upper_bit k b l) ∙ field_one (f (2 ^ k + b))) t))
    ∙ nothing_plus (sum_to (2 ^ k) (λ b. f (2 ^ k + b)))

pub both_halves : (j k : ℕ) (f : ℕ → ℕ) → j < k → sum_to (2 ^ suc k) (λ b. mul (bit b j) (f b)) ≡ sum_to (2 ^ k) (λ b. mul (bit b j) (bit_xor (f b) (f (2 ^ k + b))))
both_halves j k f h =
    in_halves k (λ b. mul (bit b j) (f b))
    ∙ ap (bit_xor (sum_to (2 ^ k) (λ b. mul (bit b j) (f b))))
    (sum_to-same (2 ^ k) (λ b. mul (bit (2 ^ k + b) j) (f (2 ^ k + b))) (λ b. mul (bit b j) (f (2 ^ k + b))) (λ b l. ap (λ d. mul d (f (2 ^ k + b))) (same_lower_bit j k b h)))
    ∙ sym (sum_to-plus (2 ^ k) (λ b. mul (bit b j) (f b)) (λ b. mul (bit b j) (f (2 ^ k + b))))
    ∙ sum_to-same (2 ^ k) (λ b. bit_xor (mul (bit b j) (f b)) (mul (bit b j) (f (2 ^ k + b)))) (λ b. mul (bit b j) (bit_xor (f b) (f (2 ^ k + b)))) (λ b l. sym (split_step (bit b j) (f b) (f (2 ^ k + b))))

-- ---- all sums
pub all_sums : (words es buckets sums : List ℕ) → length sums ≡ 128
    → ((i b : ℕ) → i < 16 → b < 256 → get_or buckets (256 * i + b) 0 ≡ bucket i b words es)
    → ((i k : ℕ) → i < 16 → k < 8 → get_or sums (8 * i + k) 0 ≡ sum_to 256 (λ b. mul (bit b k) (get_or buckets (256 * i + b) 0)))
    → sums ≡ tabulate 128 (column es words)
all_sums words es buckets sums l eb es' = entries 128 (column es words) sums l at
  where
    at : (k : ℕ) → k < 128 → get_or sums k 0 ≡ column es words k
    at k h =
        let e : k ≡ 8 * (k / 8) + k % 8 = omega arith in
        let i : k / 8 < 16 = omega arith in
        let j : k % 8 < 8 = omega arith in
        ap (λ k. get_or sums k 0) e ∙ es' (k / 8) (k % 8) i j
        ∙ sum_to-same 256 (λ b. mul (bit b (k % 8)) (get_or buckets (256 * (k / 8) + b) 0)) (λ b. mul (bit b (k % 8)) (bucket (k / 8) b words es)) (λ b m. ap (mul (bit b (k % 8))) (eb (k / 8) b i m))
        ∙ bucket_bits (k / 8) (k % 8) words es j ∙ ap (column es words) (sym e)

-- ---- an inner product by the bits of the second list
sum_step : (a b c p : ℕ) → mul (bit_xor (mul b a) c) p ≡ bit_xor (mul (mul b p) a) (mul c p)
sum_step a b c p = identity (a ∷ b ∷ c ∷ p ∷ []) (search field_terms depth 60 fits 20000) refl

sum_to-times : (n e : ℕ) (f : ℕ → ℕ) → sum_to n (λ u. mul (f u) e) ≡ mul (sum_to n f) e
sum_to-times zero e f = sym (field_zero e)
sum_to-times (suc n) e f = ap (bit_xor (mul (f 0) e)) (sum_to-times n e (λ u. f (suc u))) ∙ sym (field_add (f 0) (sum_to n (λ u. f (suc u))) e)

-- of 128 sums under powers of 2
dot_by_bits : (words es : List ℕ) → AllFit 7 words → sum_to 128 (λ u. mul (column es words u) (2 ^ u)) ≡ dot es words
dot_by_bits [] [] h = sum_to-same 128 (λ u. mul 0 (2 ^ u)) (λ u. 0) (λ u l. field_zero (2 ^ u)) ∙ sum_to-zeros 128
dot_by_bits [] (e ∷ es) h = sum_to-same 128 (λ u. mul 0 (2 ^ u)) (λ u. 0) (λ u l. field_zero (2 ^ u)) ∙ sum_to-zeros 128
dot_by_bits (w ∷ words) [] h = sum_to-same 128 (λ u. mul 0 (2 ^ u)) (λ u. 0) (λ u l. field_zero (2 ^ u)) ∙ sum_to-zeros 128
dot_by_bits (w ∷ words) (e ∷ es) h =
    sum_to-same 128 (λ u. mul (bit_xor (mul (bit w u) e) (column es words u)) (2 ^ u)) (λ u. bit_xor (mul (mul (bit w u) (2 ^ u)) e) (mul (column es words u) (2 ^ u)))
    (λ u l. sum_step e (bit w u) (column es words u) (2 ^ u))
    ∙ sum_to-plus 128 (λ u. mul (mul (bit w u) (2 ^ u)) e) (λ u. mul (column es words u) (2 ^ u))
    ∙ (λ t. bit_xor (first t) (dot_by_bits words es h.1 t))
  where
    first : sum_to 128 (λ u. mul (mul (bit w u) (2 ^ u)) e) ≡ mul e w
    first = sum_to-times 128 e (λ u. mul (bit w u) (2 ^ u)) ∙ ap (λ x. mul x e) (number_is 128 w h.0) ∙ field_comm w e

pub dot_of_columns : (words es sums : List ℕ) (total : ℕ) → AllFit 7 words → sums ≡ tabulate 128 (column es words) → total ≡ sum_to 128 (λ u. mul (get_or sums u 0) (2 ^ u)) → total ≡ dot es words
dot_of_columns words es sums total h e t =
    t ∙ ap (λ s. sum_to 128 (λ u. mul (get_or s u 0) (2 ^ u))) e
    ∙ sum_to-same 128 (λ u. mul (get_or (tabulate 128 (column es words)) u 0) (2 ^ u)) (λ u. mul (column es words u) (2 ^ u)) (λ u l. ap (λ x. mul x (2 ^ u)) (get_or-tabulate 128 u (column es words) l))
    ∙ dot_by_bits words es h
