-- Bits of columns and rows.
use Rattle.std.proofs.Common.{◌≡◌, ℕ, zero, suc, ◌+◌, ◌*◌, ◌/◌, ◌%◌, ◌^◌, ◌<◌, List, [], ◌∷◌, ◌++◌, map, length, get_or, bit_xor, refl, sym, ◌∙◌, ap, subst, arith}
use Rattle.std.proofs.lemmas.Nat.{xor_shr, xor_mod, xor_lt, pow_pos}
use Rattle.cube_laws.proofs.Folding.{length-weights}
use Rattle.std.proofs.lemmas.Nat.Bits.{bit_at_lowest, bit_at-suc, bit_at-zero, same_from_bits_below, bit_at-lt}
use Rattle.tower_laws.specs.Tower.{mul}
use Rattle.cube_laws.specs.Extension.{bit, dot, weights, extension, kron}
use Rattle.cube_laws.proofs.Dots.{dot_nil, dot-scaled, dot-zeros, dot-tabulate_sum, dot-tabulate_times}
use Rattle.cube_laws.proofs.Kron.{weights-joined}
use Rattle.cube_laws.proofs.Tabulate.{get_or-tabulate, entries}
use Rattle.std.proofs.lemmas.List.{length-map}
use Rattle.cube_laws.proofs.Weights.{by_weights_is, dot-append, length-tabulate}
use Rattle.tower_laws.proofs.Field.{identity, from_one, field_terms}
use Rattle.tower_laws.proofs.Levels.{field_zero, field_one}
use Rattle.std.specs.List.{AllByRecursion}
use Rattle.cube_laws.specs.Sums.{tabulate}
use Rattle.tensor_laws.specs.Tensor.{from_bits, column, row, across, bits_of_table}

-- ---- bits of sums
pub bit-xor : (a b i : ℕ) → bit (bit_xor a b) i ≡ bit_xor (bit a i) (bit b i)
bit-xor a b i = ap (λ n. n % 2) (xor_shr a b i) ∙ xor_mod (a / 2 ^ i) (b / 2 ^ i) 1

-- a bit times a number
bit-mul : (b e i : ℕ) → b < 2 → bit (mul b e) i ≡ mul b (bit e i)
bit-mul zero e i h = ap (λ w. bit w i) (field_zero e) ∙ bit_at-zero i ∙ sym (field_zero (bit e i))
bit-mul (suc zero) e i h = ap (λ w. bit w i) (field_one e) ∙ sym (field_one (bit e i))
bit-mul (suc (suc b)) e i h = absurd (omega arith)

cross_step : (a b c d : ℕ) → c ≡ d → bit_xor (mul a b) c ≡ bit_xor (mul b a) d
cross_step a b c d h = from_one 1 h (identity (a ∷ b ∷ c ∷ d ∷ []) (search field_terms depth 60 fits 20000) refl)

-- bit u of column v is bit v of row u
pub crossed : (es table : List ℕ) (u v : ℕ) → bit (column es table v) u ≡ bit (row es table u) v
crossed [] [] u v = bit_at-zero u ∙ sym (bit_at-zero v)
crossed [] (t ∷ table) u v = bit_at-zero u ∙ sym (bit_at-zero v)
crossed (e ∷ es) [] u v = bit_at-zero u ∙ sym (bit_at-zero v)
crossed (e ∷ es) (t ∷ table) u v =
    bit-xor (mul (bit t v) e) (column es table v) u
    ∙ (λ i. bit_xor (bit-mul (bit t v) e u (bit_at-lt t v) i) (bit (column es table v) u))
    ∙ cross_step (bit t v) (bit e u) (bit (column es table v) u) (bit (row es table u) v) (crossed es table u v)
    ∙ (λ i. bit_xor (sym (bit-mul (bit e u) t v (bit_at-lt e u)) i) (bit (row es table u) v))
    ∙ sym (bit-xor (mul (bit e u) t) (row es table u) v)

-- ---- numbers from bits
bit-from_bits : (bs : List ℕ) (i : ℕ) → AllByRecursion (λ b. b < 2) bs → bit (from_bits bs) i ≡ get_or bs i 0
bit-from_bits [] i h = bit_at-zero i
bit-from_bits (b ∷ bs) zero h = let l = h.0 in bit_at_lowest (from_bits (b ∷ bs)) ∙ omega arith
bit-from_bits (b ∷ bs) (suc i) h =
    let l = h.0 in
    let e : (b + 2 * from_bits bs) / 2 ≡ from_bits bs = omega arith in
    bit_at-suc (b + 2 * from_bits bs) i ∙ ap (λ w. bit w i) e ∙ bit-from_bits bs i h.1

from_bits_lt : (bs : List ℕ) → AllByRecursion (λ b. b < 2) bs → from_bits bs < 2 ^ length bs
from_bits_lt [] h = omega arith
from_bits_lt (b ∷ bs) h = let l = h.0 in let r = from_bits_lt bs h.1 in let e : 2 ^ suc (length bs) ≡ 2 * 2 ^ length bs = omega arith in omega arith

each_bit : (cs : List ℕ) (u : ℕ) → AllByRecursion (λ b. b < 2) (map (λ c. bit c u) cs)
each_bit [] u = tt
each_bit (c ∷ cs) u = (bit_at-lt c u, each_bit cs u)

get_or-bits : (cs : List ℕ) (u v : ℕ) → get_or (map (λ c. bit c u) cs) v 0 ≡ bit (get_or cs v 0) u
get_or-bits [] u v = sym (bit_at-zero u)
get_or-bits (c ∷ cs) u zero = refl
get_or-bits (c ∷ cs) u (suc v) = get_or-bits cs u v

pub bit-across : (cs : List ℕ) (u v : ℕ) → bit (across cs u) v ≡ bit (get_or cs v 0) u
bit-across cs u v = bit-from_bits (map (λ c. bit c u) cs) v (each_bit cs u) ∙ get_or-bits cs u v

length-bits : (cs : List ℕ) (u : ℕ) → length (map (λ c. bit c u) cs) ≡ length cs
length-bits [] u = refl
length-bits (c ∷ cs) u = ap suc (length-bits cs u)

pub across_lt : (cs : List ℕ) (u n : ℕ) → length cs ≡ n → across cs u < 2 ^ n
across_lt cs u n h = subst (λ k. across cs u < 2 ^ k) (length-bits cs u ∙ h) (from_bits_lt (map (λ c. bit c u) cs) (each_bit cs u))

-- ---- rows and columns are true together
bit_times_lt : (n b e : ℕ) → b < 2 → e < 2 ^ n → mul b e < 2 ^ n
bit_times_lt n zero e h k = subst (λ w. w < 2 ^ n) (sym (field_zero e)) (pow_pos n)
bit_times_lt n (suc zero) e h k = subst (λ w. w < 2 ^ n) (sym (field_one e)) k
bit_times_lt n (suc (suc b)) e h k = absurd (omega arith)

pub dot_bits_lt : (n : ℕ) (bs es : List ℕ) → AllByRecursion (λ b. b < 2) bs → AllByRecursion (λ e. e < 2 ^ n) es → dot bs es < 2 ^ n
dot_bits_lt n [] es h k = pow_pos n
dot_bits_lt n (b ∷ bs) [] h k = pow_pos n
dot_bits_lt n (b ∷ bs) (e ∷ es) h k = xor_lt n (mul b e) (dot bs es) (bit_times_lt n b e h.0 k.0) (dot_bits_lt n bs es h.1 k.1)

-- true columns have true rows
pub rows_from_columns : (n : ℕ) (es table cs : List ℕ) → length cs ≡ n → AllByRecursion (λ t. t < 2 ^ n) table
    → ((v : ℕ) → v < n → get_or cs v 0 ≡ column es table v) → (u : ℕ) → across cs u ≡ row es table u
rows_from_columns n es table cs l ht h u =
    same_from_bits_below n (across cs u) (row es table u) (across_lt cs u n l) (dot_bits_lt n (map (λ e. bit e u) es) table (each_bit es u) ht)
    (λ v k. bit-across cs u v ∙ ap (λ w. bit w u) (h v k) ∙ crossed es table u v)

-- and true rows have true columns
pub columns_from_rows : (n : ℕ) (es table cs : List ℕ) → AllByRecursion (λ e. e < 2 ^ n) es → ((v : ℕ) → v < n → get_or cs v 0 < 2 ^ n)
    → ((u : ℕ) → u < n → across cs u ≡ row es table u) → (v : ℕ) → v < n → get_or cs v 0 ≡ column es table v
columns_from_rows n es table cs he hc h v k =
    same_from_bits_below n (get_or cs v 0) (column es table v) (hc v k) (dot_bits_lt n (map (λ t. bit t v) table) es (each_bit table v) he)
    (λ u l. sym (bit-across cs u v) ∙ ap (λ w. bit w v) (h u l) ∙ sym (crossed es table u v))

-- ---- columns under weights
-- the columns under weights are the numbers' bits under these weights, summed over the table
pub columns_at : (n : ℕ) (es table ws : List ℕ) → dot (tabulate n (column es table)) ws ≡ dot (map (λ t. dot (tabulate n (bit t)) ws) table) es
columns_at n es [] ws = dot-zeros n ws
columns_at n [] (t ∷ table) ws = dot-zeros n ws
columns_at n (e ∷ es) (t ∷ table) ws =
    dot-tabulate_sum n (λ v. mul (bit t v) e) (column es table) ws
    ∙ (λ i. bit_xor (dot-tabulate_times n e (bit t) ws i) (columns_at n es table ws i))

-- likewise the rows: the sum over u of w_u times row u is the sum over the table with A in place of the weights
pub rows_at : (n : ℕ) (es table ws : List ℕ) → dot (tabulate n (row es table)) ws ≡ dot (map (λ e. dot (tabulate n (bit e)) ws) es) table
rows_at n es table ws = columns_at n table es ws

-- ---- the weights of two points one after the other
pub weights-append : (low high : List ℕ) → weights (low ++ high) ≡ kron (weights low) (weights high)
weights-append low high = weights-joined low high

pub dot-kron : (n : ℕ) (table ts es : List ℕ) → length ts ≡ n → dot (bits_of_table n table) (kron ts es) ≡ dot (map (λ t. dot (tabulate n (bit t)) ts) table) es
dot-kron n [] ts [] h = refl
dot-kron n [] ts (e ∷ es) h = refl
dot-kron n (t ∷ table) ts [] h = dot_nil (tabulate n (bit t) ++ bits_of_table n table)
dot-kron n (t ∷ table) ts (e ∷ es) h =
    let a = length-tabulate n (bit t) in
    let b = length-map ts (λ t. mul t e) in
    dot-append (tabulate n (bit t)) (bits_of_table n table) (map (λ t. mul t e) ts) (kron ts es) (omega arith)
    ∙ (λ i. bit_xor (dot-scaled (tabulate n (bit t)) ts e i) (dot-kron n table ts es h i))

-- the columns under the low weights are the extension of the bits
pub columns_extension : (table low high : List ℕ) → dot (tabulate (2 ^ length low) (column (weights high) table)) (weights low) ≡ extension (bits_of_table (2 ^ length low) table) (low ++ high)
columns_extension table low high =
    columns_at (2 ^ length low) (weights high) table (weights low)
    ∙ sym (ap (dot (bits_of_table (2 ^ length low) table)) (weights-append low high) ∙ dot-kron (2 ^ length low) table (weights low) (weights high) (length-weights low))
    ∙ by_weights_is (bits_of_table (2 ^ length low) table) (low ++ high)

-- the number of a list of bits has them
pub bits-from_bits : (bs : List ℕ) → AllByRecursion (λ b. b < 2) bs → tabulate (length bs) (bit (from_bits bs)) ≡ bs
bits-from_bits bs h = tabulated bs (bit (from_bits bs)) (λ i. bit-from_bits bs i h)
  where
    tabulated : (xs : List ℕ) (f : ℕ → ℕ) → ((i : ℕ) → f i ≡ get_or xs i 0) → tabulate (length xs) f ≡ xs
    tabulated [] f e = refl
    tabulated (x ∷ xs) f e = let p = e 0 in let q = tabulated xs (λ k. f (suc k)) (λ i. e (suc i)) in cc

-- ---- as lists
pub each_at : (n : ℕ) (cs : List ℕ) → AllByRecursion (λ c. c < 2 ^ n) cs → (v : ℕ) → get_or cs v 0 < 2 ^ n
each_at n [] h v = pow_pos n
each_at n (c ∷ cs) h zero = h.0
each_at n (c ∷ cs) h (suc v) = each_at n cs h.1 v

pub tensor_together : (n : ℕ) (es table cs : List ℕ) → length cs ≡ n → AllByRecursion (λ e. e < 2 ^ n) es → AllByRecursion (λ t. t < 2 ^ n) table → AllByRecursion (λ c. c < 2 ^ n) cs
    → (cs ≡ tabulate n (column es table) → tabulate n (across cs) ≡ tabulate n (row es table))
    × (tabulate n (across cs) ≡ tabulate n (row es table) → cs ≡ tabulate n (column es table))
tensor_together n es table cs l he ht hc = (
  λ e. entries n (row es table) (tabulate n (across cs)) (length-tabulate n (across cs))
      (λ u k. get_or-tabulate n u (across cs) k ∙ rows_from_columns n es table cs l ht (λ v m. ap (λ w. get_or w v 0) e ∙ get_or-tabulate n v (column es table) m) u),
  λ e. entries n (column es table) cs l
      (columns_from_rows n es table cs he (λ v m. each_at n cs hc v)
      (λ u k. sym (get_or-tabulate n u (across cs) k) ∙ ap (λ w. get_or w u 0) e ∙ get_or-tabulate n u (row es table) k)),
)
