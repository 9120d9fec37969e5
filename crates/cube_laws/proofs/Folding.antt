-- Quick forms of extensions, and folds of tables.
use Rattle.std.proofs.Common.{◌≡◌, ℕ, zero, suc, ◌+◌, ◌*◌, ◌/◌, ◌%◌, ◌<◌, ◌^◌, get_or, List, [], ◌∷◌, length, bit_xor, refl, sym, ◌∙◌, ap, arith}
use Rattle.tower_laws.specs.Tower.{mul}
use Rattle.cube_laws.specs.Extension.{dot, spread, weights, extension_by_weights, fold_low, fold_all, bits_of}
use Rattle.tower_laws.specs.Lists.{sum_all}
use Rattle.tower_laws.proofs.Field.{identity, from_one, field_terms}

step : (x a b t d e : ℕ) → d ≡ e → bit_xor (mul a (mul t (bit_xor 1 x))) (bit_xor (mul b (mul t x)) d) ≡ bit_xor (mul (bit_xor a (mul x (bit_xor a b))) t) e
step x a b t d e h = from_one 1 h (identity (x ∷ a ∷ b ∷ t ∷ d ∷ e ∷ []) (search field_terms depth 60 fits 20000) refl)

-- a table of twice as many values against weights spread out is its fold against the weights
pub dot-spread : (x : ℕ) (table ts : List ℕ) → length table ≡ 2 * length ts → dot table (spread x ts) ≡ dot (fold_low x table) ts
dot-spread x [] [] h = refl
dot-spread x [] (t ∷ ts) h = absurd (omega arith)
dot-spread x (a ∷ []) [] h = refl
dot-spread x (a ∷ []) (t ∷ ts) h = absurd (omega arith)
dot-spread x (a ∷ b ∷ table) [] h = absurd (omega arith)
dot-spread x (a ∷ b ∷ table) (t ∷ ts) h = step x a b t _ _ (dot-spread x table ts (omega arith))

length-spread : (x : ℕ) (ts : List ℕ) → length (spread x ts) ≡ 2 * length ts
length-spread x [] = refl
length-spread x (t ∷ ts) = let h = length-spread x ts in omega arith

pub length-weights : (point : List ℕ) → length (weights point) ≡ 2 ^ length point
length-weights [] = refl
length-weights (x ∷ xs) = let p : 2 ^ suc (length xs) ≡ 2 * 2 ^ length xs = omega arith in length-spread x (weights xs) ∙ ap (λ n. 2 * n) (length-weights xs) ∙ sym p

pub weighted-fold_low : (table : List ℕ) (x : ℕ) (xs : List ℕ) → length table ≡ 2 ^ suc (length xs) → extension_by_weights table (x ∷ xs) ≡ extension_by_weights (fold_low x table) xs
weighted-fold_low table x xs h = let k = length-weights xs in dot-spread x table (weights xs) (omega arith)

-- ---- an entry of a fold
pub get_or-fold_low : (x j : ℕ) (table : List ℕ) → 2 * j + 1 < length table
    → get_or (fold_low x table) j 0 ≡ bit_xor (get_or table (2 * j) 0) (mul x (bit_xor (get_or table (2 * j) 0) (get_or table (2 * j + 1) 0)))
get_or-fold_low x j [] h = absurd (omega arith)
get_or-fold_low x j (a ∷ []) h = absurd (omega arith)
get_or-fold_low x zero (a ∷ b ∷ table) h = refl
get_or-fold_low x (suc j) (a ∷ b ∷ table) h =
    let e1 : 2 * suc j ≡ suc (suc (2 * j)) = omega arith in
    let e2 : 2 * suc j + 1 ≡ suc (suc (2 * j + 1)) = omega arith in
    rw (e2, e1) (get_or-fold_low x j table (omega arith))

pub length-fold_low : (x half : ℕ) (table : List ℕ) → length table ≡ 2 * half → length (fold_low x table) ≡ half
length-fold_low x zero [] h = refl
length-fold_low x (suc half) [] h = absurd (omega arith)
length-fold_low x half (a ∷ []) h = absurd (omega arith)
length-fold_low x zero (a ∷ b ∷ table) h = absurd (omega arith)
length-fold_low x (suc half) (a ∷ b ∷ table) h = ap suc (length-fold_low x half table (omega arith))

pub length-bits_of : (n k : ℕ) → length (bits_of n k) ≡ n
length-bits_of zero k = refl
length-bits_of (suc n) k = ap suc (length-bits_of n (k / 2))

low_bit : (a c : ℕ) → bit_xor a (mul 0 (bit_xor a c)) ≡ a
low_bit a c = identity (a ∷ c ∷ []) (search field_terms depth 60 fits 20000) refl

high_bit : (a c : ℕ) → bit_xor a (mul 1 (bit_xor a c)) ≡ c
high_bit a c = identity (a ∷ c ∷ []) (search field_terms depth 60 fits 20000) refl

at_bit : (k q b : ℕ) (table : List ℕ) → b < 2 → k ≡ 2 * q + b
    → bit_xor (get_or table (2 * q) 0) (mul b (bit_xor (get_or table (2 * q) 0) (get_or table (2 * q + 1) 0))) ≡ get_or table k 0
at_bit k q zero table h e = let p : 2 * q ≡ k = omega arith in low_bit (get_or table (2 * q) 0) (get_or table (2 * q + 1) 0) ∙ ap (λ m. get_or table m 0) p
at_bit k q (suc zero) table h e = high_bit (get_or table (2 * q) 0) (get_or table (2 * q + 1) 0) ∙ ap (λ m. get_or table m 0) (sym e)
at_bit k q (suc (suc b)) table h e = absurd (omega arith)

one_value : (k : ℕ) (table : List ℕ) → length table ≡ 1 → k < 1 → extension_by_weights table [] ≡ get_or table k 0
one_value k [] h l = absurd (omega arith)
one_value zero (a ∷ []) h l = identity (a ∷ []) (search field_terms depth 60 fits 20000) refl
one_value (suc k) (a ∷ []) h l = absurd (omega arith)
one_value k (a ∷ b ∷ table) h l = absurd (omega arith)

-- the quick form of an extension has the table's values at the points of bits
pub weighted-bits : (n k : ℕ) (table : List ℕ) → length table ≡ 2 ^ n → k < 2 ^ n → extension_by_weights table (bits_of n k) ≡ get_or table k 0
weighted-bits zero k table h l = one_value k table h l
weighted-bits (suc n) k table h l =
    let p : 2 ^ suc n ≡ 2 * 2 ^ n = omega arith in
    weighted-fold_low table (k % 2) (bits_of n (k / 2)) (h ∙ ap (λ m. 2 ^ suc m) (sym (length-bits_of n (k / 2))))
    ∙ weighted-bits n (k / 2) (fold_low (k % 2) table) (length-fold_low (k % 2) (2 ^ n) table (h ∙ p)) (omega arith)
    ∙ get_or-fold_low (k % 2) (k / 2) table (omega arith) ∙ at_bit k (k / 2) (k % 2) table (omega arith) (omega arith)

-- ---- the sum of a table
sums_step : (a b s t u : ℕ) → bit_xor s t ≡ u → bit_xor (bit_xor (bit_xor a (mul 0 (bit_xor a b))) s) (bit_xor (bit_xor a (mul 1 (bit_xor a b))) t) ≡ bit_xor a (bit_xor b u)
sums_step a b s t u h = from_one 1 h (identity (a ∷ b ∷ s ∷ t ∷ u ∷ []) (search field_terms depth 60 fits 20000) refl)

pub sum-fold_low : (half : ℕ) (table : List ℕ) → length table ≡ 2 * half → bit_xor (sum_all (fold_low 0 table)) (sum_all (fold_low 1 table)) ≡ sum_all table
sum-fold_low zero [] h = refl
sum-fold_low (suc half) [] h = absurd (omega arith)
sum-fold_low half (a ∷ []) h = absurd (omega arith)
sum-fold_low zero (a ∷ b ∷ table) h = absurd (omega arith)
sum-fold_low (suc half) (a ∷ b ∷ table) h = sums_step a b _ _ _ (sum-fold_low half table (omega arith))

line_step : (x a b s t u : ℕ) → u ≡ bit_xor s (mul x (bit_xor s t))
    → bit_xor (bit_xor a (mul x (bit_xor a b))) u ≡ bit_xor (bit_xor (bit_xor a (mul 0 (bit_xor a b))) s) (mul x (bit_xor (bit_xor (bit_xor a (mul 0 (bit_xor a b))) s) (bit_xor (bit_xor a (mul 1 (bit_xor a b))) t)))
line_step x a b s t u h = from_one 1 h (identity (x ∷ a ∷ b ∷ s ∷ t ∷ u ∷ []) (search field_terms depth 60 fits 20000) refl)

-- as a function of x the sum of the fold is a line
pub sum-fold_low_line : (x half : ℕ) (table : List ℕ) → length table ≡ 2 * half
    → sum_all (fold_low x table) ≡ bit_xor (sum_all (fold_low 0 table)) (mul x (bit_xor (sum_all (fold_low 0 table)) (sum_all (fold_low 1 table))))
sum-fold_low_line x zero [] h = identity (x ∷ []) (search field_terms depth 60 fits 20000) refl
sum-fold_low_line x (suc half) [] h = absurd (omega arith)
sum-fold_low_line x half (a ∷ []) h = absurd (omega arith)
sum-fold_low_line x zero (a ∷ b ∷ table) h = absurd (omega arith)
sum-fold_low_line x (suc half) (a ∷ b ∷ table) h = line_step x a b _ _ _ (sum-fold_low_line x half table (omega arith))

-- an even table at a point of any length
pub dot-even : (x half : ℕ) (table ts : List ℕ) → length table ≡ 2 * half → dot table (spread x ts) ≡ dot (fold_low x table) ts
dot-even x half [] ts h = refl
dot-even x half (a ∷ []) ts h = absurd (omega arith)
dot-even x zero (a ∷ b ∷ table) ts h = absurd (omega arith)
dot-even x (suc half) (a ∷ b ∷ table) [] h = refl
dot-even x (suc half) (a ∷ b ∷ table) (t ∷ ts) h = step x a b t _ _ (dot-even x half table ts (omega arith))

pub weighted-fold_all : (rs table : List ℕ) → length table ≡ 2 ^ length rs → extension_by_weights (fold_all rs table) [] ≡ extension_by_weights table rs
weighted-fold_all [] table h = refl
weighted-fold_all (r ∷ rs) table h =
    let q : 2 ^ suc (length rs) ≡ 2 * 2 ^ length rs = omega arith in
    weighted-fold_all rs (fold_low r table) (length-fold_low r (2 ^ length rs) table (h ∙ q)) ∙ sym (weighted-fold_low table r rs h)
