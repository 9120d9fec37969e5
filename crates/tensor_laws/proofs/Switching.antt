-- Steps of the ring switch.
use Rattle.std.proofs.Common.{◌≡◌, ℕ, zero, suc, ◌+◌, ◌*◌, ◌^◌, ◌<◌, List, [], ◌∷◌, ◌++◌, map, take, drop, length, get_or, bit_xor, refl, sym, ◌∙◌, ap, arith, length-take, length-drop}
use Rattle.std.specs.List.{AllByRecursion}
use Rattle.std.proofs.lemmas.List.{take-append-drop}
use Rattle.std.proofs.lemmas.Nat.Bits.{same_from_bits_below}
use Rattle.tower_laws.specs.Tower.{mul}
use Rattle.tower_laws.specs.Lists.{sums, AllFit}
use Rattle.tower_laws.proofs.Field.{identity, from_one, field_terms}
use Rattle.tower_laws.proofs.Lists.{all_fit-scaled}
use Rattle.cube_laws.specs.Sums.{tabulate}
use Rattle.cube_laws.specs.Extension.{bit, dot, eq, spread, extension, weights, bits_of}
use Rattle.cube_laws.proofs.Dots.{dot-scale, dot-comm, sum_to-dot}
use Rattle.cube_laws.proofs.EqPoints.{weights_tabulated}
use Rattle.batch_laws.proofs.Fits.{all_fit-weights, one_plus_fits}
use Rattle.cube_laws.proofs.Folding.{length-bits_of, length-weights}
use Rattle.batch_laws.proofs.Parts.{dot_at}
use Rattle.cube_laws.proofs.Tabulate.{get_or-tabulate, map-tabulate, sums-tabulate, entries}
use Rattle.cube_laws.proofs.Weights.{tabulate-same, length-tabulate, by_weights_is}
use Rattle.tensor_laws.specs.Tensor.{from_bits, row, column, across, bits_of_table}
use Rattle.tensor_laws.specs.Switch.{transposed, packed_bits, combined, scaled, tensor_eq}
use Rattle.tensor_laws.proofs.Crossing.{rows_from_columns, tensor_together, columns_extension, rows_at, bits-from_bits, bit-across, across_lt, each_at}

-- ---- packed bits
all_take : (n : ℕ) (xs : List ℕ) → AllByRecursion (λ b. b < 2) xs → AllByRecursion (λ b. b < 2) (take n xs)
all_take zero xs h = tt
all_take (suc n) [] h = tt
all_take (suc n) (x ∷ xs) h = (h.0, all_take n xs h.1)

all_drop : (n : ℕ) (xs : List ℕ) → AllByRecursion (λ b. b < 2) xs → AllByRecursion (λ b. b < 2) (drop n xs)
all_drop zero xs h = h
all_drop (suc n) [] h = tt
all_drop (suc n) (x ∷ xs) h = all_drop n xs h.1

pub unpacked_is : (m n : ℕ) (bits : List ℕ) → length bits ≡ m * n → AllByRecursion (λ b. b < 2) bits → bits_of_table n (packed_bits m n bits) ≡ bits
unpacked_is zero n [] l h = refl
unpacked_is zero n (b ∷ bits) l h = absurd (omega arith)
unpacked_is (suc m) n bits l h =
    let q : suc m * n ≡ n + m * n = grind arith in
    let t : length (take n bits) ≡ n = let a = length-take n bits in omega arith in
    let d : length (drop n bits) ≡ m * n = let a = length-drop n bits in omega arith in
    (λ i. (ap (λ k. tabulate k (bit (from_bits (take n bits)))) (sym t) ∙ bits-from_bits (take n bits) (all_take n bits h)) i ++ unpacked_is m n (drop n bits) d (all_drop n bits h) i)
    ∙ take-append-drop n bits

pub length-packed_bits : (m n : ℕ) (bits : List ℕ) → length (packed_bits m n bits) ≡ m
length-packed_bits zero n bits = refl
length-packed_bits (suc m) n bits = ap suc (length-packed_bits m n (drop n bits))

-- ---- rows from columns, by exchange of bits
pub transposed_is : (n : ℕ) (columns rows : List ℕ) → length columns ≡ n → length rows ≡ n → AllByRecursion (λ r. r < 2 ^ n) rows
    → ((u v : ℕ) → u < n → v < n → bit (get_or rows u 0) v ≡ bit (get_or columns v 0) u) → rows ≡ transposed n columns
transposed_is n columns rows lc lr fit h =
    entries n (across columns) rows lr
    (λ u l. same_from_bits_below n (get_or rows u 0) (across columns u) (each_at n rows fit u) (across_lt columns u n lc) (λ v k. h u v l k ∙ sym (bit-across columns u v)))

-- a column is a value of the bits' extension
pub column_is : (i v : ℕ) (high table : List ℕ) → v < 2 ^ i → column (weights high) table v ≡ extension (bits_of_table (2 ^ i) table) (bits_of i v ++ high)
column_is i v high table l =
    let n = length-bits_of i v in
    sym (get_or-tabulate (2 ^ i) v (column (weights high) table) l)
    ∙ sym (dot_at i v (tabulate (2 ^ i) (column (weights high) table)) l)
    ∙ ap (λ k. dot (tabulate (2 ^ k) (column (weights high) table)) (weights (bits_of i v))) (sym n)
    ∙ columns_extension table (bits_of i v) high
    ∙ ap (λ k. extension (bits_of_table (2 ^ k) table) (bits_of i v ++ high)) n

-- ---- rows of multiples
transposed-rows : (n : ℕ) (es table : List ℕ) → AllByRecursion (λ e. e < 2 ^ n) es → transposed n (tabulate n (row es table)) ≡ tabulate n (row table es)
transposed-rows n es table h =
    tabulate-same n _ (row table es)
    (λ u l. rows_from_columns n table es (tabulate n (row es table)) (length-tabulate n (row es table)) h (λ v k. get_or-tabulate n v (row es table) k) u)

scaled_right : (c : ℕ) (xs ts : List ℕ) → mul c (dot xs ts) ≡ dot xs (map (mul c) ts)
scaled_right c xs ts = ap (mul c) (dot-comm xs ts) ∙ sym (dot-scale c ts xs) ∙ dot-comm (map (mul c) ts) xs

rows-scaled : (n c : ℕ) (es table : List ℕ) → map (mul c) (tabulate n (row es table)) ≡ tabulate n (row es (map (mul c) table))
rows-scaled n c es table =
    map-tabulate n (mul c) (row es table)
    ∙ tabulate-same n (λ u. mul c (row es table u)) (row es (map (mul c) table)) (λ u l. scaled_right c (map (λ e. bit e u) es) table)

pub scaled-rows : (i h a : ℕ) (es table : List ℕ) → a < 2 ^ (2 ^ i) → AllFit i es → AllFit i table
    → scaled (2 ^ i) h a (tabulate (2 ^ i) (row es table)) ≡ tabulate (2 ^ i) (row (map (mul h) es) (map (mul a) table))
scaled-rows i h a es table l he ht =
    ap (λ w. transposed (2 ^ i) (map (mul h) (transposed (2 ^ i) w))) (rows-scaled (2 ^ i) a es table)
    ∙ ap (λ w. transposed (2 ^ i) (map (mul h) w)) (transposed-rows (2 ^ i) es (map (mul a) table) he)
    ∙ ap (transposed (2 ^ i)) (rows-scaled (2 ^ i) h (map (mul a) table) es)
    ∙ transposed-rows (2 ^ i) (map (mul a) table) (map (mul h) es) (all_fit-scaled i a table l ht)

-- ---- rows coordinate by coordinate
turned : (a b : ℕ) → mul a b ≡ mul b a
turned a b = identity (a ∷ b ∷ []) (search field_terms depth 60 fits 20000) refl

row_cell : (p q r s x y z : ℕ) → x ≡ bit_xor y z → bit_xor (mul p q) (bit_xor (mul r s) x) ≡ bit_xor (bit_xor (mul p q) y) (bit_xor (mul r s) z)
row_cell p q r s x y z e = from_one 1 e (identity (p ∷ q ∷ r ∷ s ∷ x ∷ y ∷ z ∷ []) (search field_terms depth 60 fits 20000) refl)

row-spread : (h a u : ℕ) (es table : List ℕ) → length es ≡ length table
    → row (spread h es) (spread a table) u ≡ bit_xor (row (map (mul (bit_xor 1 h)) es) (map (mul (bit_xor 1 a)) table) u) (row (map (mul h) es) (map (mul a) table) u)
row-spread h a u [] [] l = refl
row-spread h a u [] (t ∷ table) l = absurd (omega arith)
row-spread h a u (e ∷ es) [] l = absurd (omega arith)
row-spread h a u (e ∷ es) (t ∷ table) l =
    (λ i. bit_xor (mul (bit (turned e (bit_xor 1 h) i) u) (turned t (bit_xor 1 a) i)) (bit_xor (mul (bit (turned e h i) u) (turned t a i)) (row-spread h a u es table (omega arith) i)))
    ∙ row_cell (bit (mul (bit_xor 1 h) e) u) (mul (bit_xor 1 a) t) (bit (mul h e) u) (mul a t) _ _ _ refl

length-weights-same : (xs ys : List ℕ) → length xs ≡ length ys → length (weights xs) ≡ length (weights ys)
length-weights-same xs ys h = length-weights xs ∙ ap (λ n. 2 ^ n) h ∙ sym (length-weights ys)

one_row : (b : ℕ) → b ≡ bit_xor (mul b 1) 0
one_row b = identity (b ∷ []) (search field_terms depth 60 fits 20000) refl

pub tensor_rows : (i : ℕ) (high at : List ℕ) → length high ≡ length at → AllFit i high → AllFit i at → tensor_eq (2 ^ i) high at ≡ tabulate (2 ^ i) (row (weights high) (weights at))
tensor_rows i [] [] l hh ha = tabulate-same (2 ^ i) (bit 1) (row (1 ∷ []) (1 ∷ [])) (λ u k. one_row (bit 1 u))
tensor_rows i [] (a ∷ at) l hh ha = absurd (omega arith)
tensor_rows i (h ∷ high) [] l hh ha = absurd (omega arith)
tensor_rows i (h ∷ high) (a ∷ at) l hh ha =
    let r = tensor_rows i high at (omega arith) hh.1 ha.1 in
    let fh = all_fit-weights i high hh.1 in
    let fa = all_fit-weights i at ha.1 in
    (λ t. sums (scaled (2 ^ i) (bit_xor 1 h) (bit_xor 1 a) (r t)) (scaled (2 ^ i) h a (r t)))
    ∙ (λ t. sums (scaled-rows i (bit_xor 1 h) (bit_xor 1 a) (weights high) (weights at) (one_plus_fits i a ha.0) fh fa t) (scaled-rows i h a (weights high) (weights at) ha.0 fh fa t))
    ∙ sums-tabulate (2 ^ i) _ _
    ∙ tabulate-same (2 ^ i) _ (row (spread h (weights high)) (spread a (weights at))) (λ u k. sym (row-spread h a u (weights high) (weights at) (length-weights-same high at (omega arith))))

-- ---- the steps
-- true rows and columns that add up to the value tell a true value of the bits
pub message_tells : (i : ℕ) (high low table cs : List ℕ) → length low ≡ i → length cs ≡ 2 ^ i → AllFit i high → AllFit i table → AllFit i cs
    → transposed (2 ^ i) cs ≡ tabulate (2 ^ i) (row (weights high) table) → dot cs (weights low) ≡ extension (bits_of_table (2 ^ i) table) (low ++ high)
message_tells i high low table cs ll lc hh ht hc e =
    let c = (tensor_together (2 ^ i) (weights high) table cs lc (all_fit-weights i high hh) ht hc).1 e in
    ap (λ w. dot w (weights low)) c
    ∙ ap (λ n. dot (tabulate (2 ^ n) (column (weights high) table)) (weights low)) (sym ll)
    ∙ columns_extension table low high
    ∙ ap (λ n. extension (bits_of_table (2 ^ n) table) (low ++ high)) ll

-- a quick form of A
pub combined_is : (high draws : List ℕ) → combined high draws ≡ map (λ e. dot (tabulate (2 ^ length draws) (bit e)) (weights draws)) (weights high)
combined_is high draws =
    let n = 2 ^ length draws in
    tabulate-same (2 ^ length high) _ (λ w. dot (tabulate n (bit (eq high w))) (weights draws))
    (λ w l. sum_to-dot n (bit (eq high w)) (eq draws) ∙ ap (dot (tabulate n (bit (eq high w)))) (sym (weights_tabulated draws)))
    ∙ sym (map-tabulate (2 ^ length high) (λ e. dot (tabulate n (bit e)) (weights draws)) (eq high))
    ∙ ap (map (λ e. dot (tabulate n (bit e)) (weights draws))) (sym (weights_tabulated high))

-- the rows at a point
pub switched : (high draws table : List ℕ) → extension (tabulate (2 ^ length draws) (row (weights high) table)) draws ≡ dot (combined high draws) table
switched high draws table =
    sym (by_weights_is (tabulate (2 ^ length draws) (row (weights high) table)) draws) ∙ rows_at (2 ^ length draws) (weights high) table (weights draws)
    ∙ ap (λ a. dot a table) (sym (combined_is high draws))

-- A at a point, without a sum over w
pub combined_at : (high at draws : List ℕ) → length high ≡ length at → AllFit (length draws) high → AllFit (length draws) at
    → extension (combined high draws) at ≡ dot (tensor_eq (2 ^ length draws) high at) (weights draws)
combined_at high at draws l hh ha =
    let i = length draws in
    ap (λ a. extension a at) (combined_is high draws)
    ∙ sym (by_weights_is (map (λ e. dot (tabulate (2 ^ i) (bit e)) (weights draws)) (weights high)) at)
    ∙ sym (rows_at (2 ^ i) (weights high) (weights at) (weights draws))
    ∙ ap (λ t. dot t (weights draws)) (sym (tensor_rows i high at l hh ha))
