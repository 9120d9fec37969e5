-- A value of a shifted column as a sum over a block.
use Rattle.std.proofs.Common.{◌≡◌, ◌≢◌, ℕ, zero, suc, ◌+◌, ◌-◌, ◌*◌, ◌/◌, ◌%◌, ◌^◌, ◌<◌, ◌≤◌, ◌⊎◌, inl, inr, leb, ltb, eqb, Bool, true, false, cond, List, [], ◌∷◌, ◌++◌, length, get_or, bit_xor, refl, sym, ◌∙◌, ap, arith}
use Rattle.std.proofs.lemmas.Bool.{cases_lt, lt-ltb}
use Rattle.std.proofs.lemmas.Bool.Decides.{eqb_tells, nat_tests}
use Rattle.std.proofs.lemmas.Nat.{mod-mul-add, pow_pos}
use Rattle.tower_laws.specs.Tower.{mul}
use Rattle.tower_laws.specs.Lists.{AllFit}
use Rattle.tower_laws.proofs.Levels.{size_pos}
use Rattle.tower_laws.proofs.Lists.{get_or_fits}
use Rattle.tower_laws.proofs.Field.{identity, from_one, field_terms}
use Rattle.batch_laws.proofs.Fits.{all_fit-tabulate}
use Rattle.cube_laws.specs.Sums.{sum_to, tabulate}
use Rattle.cube_laws.specs.Extension.{dot, extension, weights, bits_of}
use Rattle.cube_laws.specs.SumClaim.{sum_at}
use Rattle.batch_laws.proofs.Batching.{pair_sum_is}
use Rattle.cube_laws.proofs.Coordinates.{fold_all_is, sum_at-all}
use Rattle.cube_laws.proofs.Dots.{dot-comm, dot-exchange, sum_to-dot}
use Rattle.cube_laws.proofs.Folding.{length-weights}
use Rattle.cube_laws.proofs.Kron.{weights-joined}
use Rattle.batch_laws.proofs.Parts.{blocks, dot-blocks, extension_every, fold_list}
use Rattle.cube_laws.proofs.Tabulate.{take-tabulate, drop-tabulate}
use Rattle.cube_laws.proofs.Weights.{tabulate-same, length-tabulate, by_weights_is}
use Rattle.shift_laws.specs.Shifts.{Shift, shl, shr, rol, flag, shifted_value, shifted, goes, pairs_at, shift_at, shift_sum}

-- ---- tests
pub same_tests : (a b c d : ℕ) → (a ≡ b → c ≡ d) → (c ≡ d → a ≡ b) → eqb a b ≡ eqb c d
same_tests a b c d f g = go (eqb_tells a b) (eqb_tells c d)
  where
    go : ((eqb a b ≡ true) × (a ≡ b)) ⊎ ((eqb a b ≡ false) × (a ≢ b)) → ((eqb c d ≡ true) × (c ≡ d)) ⊎ ((eqb c d ≡ false) × (c ≢ d)) → eqb a b ≡ eqb c d
    go (inl (s, e)) (inl (t, k)) = s ∙ sym t
    go (inl (s, e)) (inr (t, k)) = absurd (k (f e))
    go (inr (s, e)) (inl (t, k)) = absurd (e (g k))
    go (inr (s, e)) (inr (t, k)) = s ∙ sym t

pub not_equal : (a b : ℕ) → a ≢ b → eqb a b ≡ false
not_equal a b ne = go (eqb_tells a b)
  where
    go : ((eqb a b ≡ true) × (a ≡ b)) ⊎ ((eqb a b ≡ false) × (a ≢ b)) → eqb a b ≡ false
    go (inl (s, e)) = absurd (ne e)
    go (inr (s, e)) = s

-- ---- a sum with one term
first_none : (a s r : ℕ) → s ≡ r → bit_xor (mul 0 a) s ≡ r
first_none a s r h = from_one 1 h (identity (a ∷ s ∷ r ∷ []) (search field_terms depth 60 fits 20000) refl)

pub sum_none : (n : ℕ) (t : ℕ → Bool) (g : ℕ → ℕ) → ((p : ℕ) → p < n → t p ≡ false) → sum_to n (λ p. mul (flag (t p)) (g p)) ≡ 0
sum_none zero t g h = refl
sum_none (suc n) t g h =
    ap (λ b. bit_xor (mul (flag b) (g 0)) (sum_to n (λ p. mul (flag (t (suc p))) (g (suc p))))) (h 0 (omega arith))
    ∙ first_none (g 0) _ 0 (sum_none n (λ p. t (suc p)) (λ p. g (suc p)) (λ p l. h (suc p) (omega arith)))

first_one : (a s : ℕ) → s ≡ 0 → bit_xor (mul 1 a) s ≡ a
first_one a s h = from_one 1 h (identity (a ∷ s ∷ []) (search field_terms depth 60 fits 20000) refl)

pub sum_one : (n k : ℕ) (t : ℕ → Bool) (g : ℕ → ℕ) → k < n → ((p : ℕ) → p < n → t p ≡ eqb p k) → sum_to n (λ p. mul (flag (t p)) (g p)) ≡ g k
sum_one zero k t g l h = absurd (omega arith)
sum_one (suc n) zero t g l h =
    ap (λ b. bit_xor (mul (flag b) (g 0)) (sum_to n (λ p. mul (flag (t (suc p))) (g (suc p))))) (h 0 (omega arith))
    ∙ first_one (g 0) _ (sum_none n (λ p. t (suc p)) (λ p. g (suc p)) (λ p m. h (suc p) (omega arith) ∙ not_equal (suc p) 0 (λ e. omega arith)))
sum_one (suc n) (suc k) t g l h =
    ap (λ b. bit_xor (mul (flag b) (g 0)) (sum_to n (λ p. mul (flag (t (suc p))) (g (suc p))))) (h 0 (omega arith) ∙ not_equal 0 (suc k) (λ e. omega arith))
    ∙ first_none (g 0) _ (g (suc k)) (sum_one n k (λ p. t (suc p)) (λ p. g (suc p)) (omega arith) (λ p m. h (suc p) (omega arith) ∙ same_tests (suc p) (suc k) p k (λ e. omega arith) (λ e. omega arith)))

-- ---- remainders below twice the divisor
pub mod_below : (a m : ℕ) → a < m → a % m ≡ a
mod_below a m h = let e : a ≡ 0 * m + a = omega arith in ap (λ n. n % m) e ∙ mod-mul-add 0 m a h

pub mod_above : (a m : ℕ) → m ≤ a → a < m + m → a % m ≡ a - m
mod_above a m h k = let e : a ≡ 1 * m + (a - m) = omega arith in ap (λ n. n % m) e ∙ mod-mul-add 1 m (a - m) (omega arith)

pub mod_of_sum : (a o m : ℕ) → 0 < m → (a + o) % m ≡ (a + o % m) % m
mod_of_sum a o m z =
    let r : (a + o % m) % m < m = omega arith in
    let e : o ≡ o / m * m + o % m = omega arith in
    let d : a + o % m ≡ (a + o % m) / m * m + (a + o % m) % m = omega arith in
    let w : (o / m + (a + o % m) / m) * m ≡ o / m * m + (a + o % m) / m * m = grind arith in
    let t : a + o ≡ (o / m + (a + o % m) / m) * m + (a + o % m) % m = omega arith in
    ap (λ n. n % m) t ∙ mod-mul-add (o / m + (a + o % m) / m) m ((a + o % m) % m) r

-- the place that goes round to q
comes_from : (m o q p : ℕ) → q < m → p < m → o < m → eqb q ((p + o) % m) ≡ eqb p ((q + (m - o)) % m)
comes_from m o q p hq hp ho = same_tests q ((p + o) % m) p ((q + (m - o)) % m) (λ e. there (cases_lt (p + o) m) e) (λ e. back (cases_lt q o) e)
  where
    there : (p + o < m) ⊎ (m ≤ p + o) → q ≡ (p + o) % m → p ≡ (q + (m - o)) % m
    there (inl l) e = let a = mod_below (p + o) m l in let b = mod_above (q + (m - o)) m (omega arith) (omega arith) in omega arith
    there (inr l) e = let a = mod_above (p + o) m l (omega arith) in let b = mod_below (q + (m - o)) m (omega arith) in omega arith

    back : (q < o) ⊎ (o ≤ q) → p ≡ (q + (m - o)) % m → q ≡ (p + o) % m
    back (inl l) e = let b = mod_below (q + (m - o)) m (omega arith) in let a = mod_above (p + o) m (omega arith) (omega arith) in omega arith
    back (inr l) e = let b = mod_above (q + (m - o)) m (omega arith) (omega arith) in let a = mod_below (p + o) m (omega arith) in omega arith

-- ---- a shifted value is a sum over its block
-- h is the block, q the place in it
value_is : (s : Shift) (b o h q : ℕ) (c : List ℕ) → q < 2 ^ b → shifted_value s b o c (h * 2 ^ b + q) ≡ sum_to (2 ^ b) (λ p. mul (flag (goes s b o q p)) (get_or c (h * 2 ^ b + p) 0))
value_is shl b o h q c l = ap (λ r. cond (leb o r) (get_or c (h * 2 ^ b + q - o) 0) 0) (mod-mul-add h (2 ^ b) q l) ∙ go (cases_lt q o)
  where
    early : (o q : ℕ) → q < o → leb o q ≡ false
    early o q h = grind (arith, nat_tests)

    late : (o q : ℕ) → o ≤ q → leb o q ≡ true
    late o q h = grind (arith, nat_tests)

    go : (q < o) ⊎ (o ≤ q) → cond (leb o q) (get_or c (h * 2 ^ b + q - o) 0) 0 ≡ sum_to (2 ^ b) (λ p. mul (flag (eqb q (p + o))) (get_or c (h * 2 ^ b + p) 0))
    go (inl k) = ap (λ t. cond t (get_or c (h * 2 ^ b + q - o) 0) 0) (early o q k) ∙ sym (sum_none (2 ^ b) (λ p. eqb q (p + o)) (λ p. get_or c (h * 2 ^ b + p) 0) (λ p m. not_equal q (p + o) (λ e. omega arith)))
    go (inr k) =
        let e : h * 2 ^ b + q - o ≡ h * 2 ^ b + (q - o) = omega arith in
        ap (λ t. cond t (get_or c (h * 2 ^ b + q - o) 0) 0) (late o q k) ∙ ap (λ n. get_or c n 0) e
        ∙ sym (sum_one (2 ^ b) (q - o) (λ p. eqb q (p + o)) (λ p. get_or c (h * 2 ^ b + p) 0) (omega arith) (λ p m. same_tests q (p + o) p (q - o) (λ e. omega arith) (λ e. omega arith)))
value_is shr b o h q c l = ap (λ r. cond (ltb (r + o) (2 ^ b)) (get_or c (h * 2 ^ b + q + o) 0) 0) (mod-mul-add h (2 ^ b) q l) ∙ go (cases_lt (q + o) (2 ^ b))
  where
    late : (a m : ℕ) → m ≤ a → ltb a m ≡ false
    late a m h = grind (arith, nat_tests)

    go : (q + o < 2 ^ b) ⊎ (2 ^ b ≤ q + o) → cond (ltb (q + o) (2 ^ b)) (get_or c (h * 2 ^ b + q + o) 0) 0 ≡ sum_to (2 ^ b) (λ p. mul (flag (eqb (q + o) p)) (get_or c (h * 2 ^ b + p) 0))
    go (inl k) =
        let e : h * 2 ^ b + q + o ≡ h * 2 ^ b + (q + o) = omega arith in
        ap (λ t. cond t (get_or c (h * 2 ^ b + q + o) 0) 0) (lt-ltb (q + o) (2 ^ b) k) ∙ ap (λ n. get_or c n 0) e
        ∙ sym (sum_one (2 ^ b) (q + o) (λ p. eqb (q + o) p) (λ p. get_or c (h * 2 ^ b + p) 0) k (λ p m. same_tests (q + o) p p (q + o) sym sym))
    go (inr k) = ap (λ t. cond t (get_or c (h * 2 ^ b + q + o) 0) 0) (late (q + o) (2 ^ b) k) ∙ sym (sum_none (2 ^ b) (λ p. eqb (q + o) p) (λ p. get_or c (h * 2 ^ b + p) 0) (λ p m. not_equal (q + o) p (λ e. omega arith)))
value_is rol b o h q c l =
    let m = 2 ^ b in
    let z = pow_pos b in
    let r : o % m < m = omega arith in
    let k : (q + (m - o % m)) % m < m = omega arith in
    let e : h * m + q - q ≡ h * m = omega arith in
    (λ i. get_or c (h * m + q - mod-mul-add h m q l i + (mod-mul-add h m q l i + (m - o % m)) % m) 0)
    ∙ ap (λ n. get_or c (n + (q + (m - o % m)) % m) 0) e
    ∙ sym (sum_one m ((q + (m - o % m)) % m) (λ p. eqb q ((p + o) % m)) (λ p. get_or c (h * m + p) 0) k (λ p hp. ap (eqb q) (mod_of_sum p o m z) ∙ comes_from m (o % m) q p l hp r))

-- ---- the blocks of a table that a function of the place tells
block-tabulate : (m n : ℕ) (g : ℕ → ℕ) (ws : List ℕ) → blocks m n (tabulate (m * n) g) ws ≡ tabulate m (λ h. dot (tabulate n (λ q. g (h * n + q))) ws)
block-tabulate zero n g ws = refl
block-tabulate (suc m) n g ws =
    let e : suc m * n ≡ n + m * n = grind arith in
    ap (λ k. blocks (suc m) n (tabulate k g) ws) e
    ∙ (λ i. dot ((take-tabulate n (m * n) g ∙ tabulate-same n g (λ q. g (0 * n + q)) (λ q l. let z : q ≡ 0 * n + q = omega arith in ap g z)) i) ws
    ∷ (ap (λ t. blocks m n t ws) (drop-tabulate n (m * n) g) ∙ block-tabulate m n (λ q. g (n + q)) ws
    ∙ tabulate-same m _ (λ h. dot (tabulate n (λ q. g (suc h * n + q))) ws) (λ h l. ap (λ t. dot t ws) (tabulate-same n (λ q. g (n + (h * n + q))) (λ q. g (suc h * n + q)) (λ q k. ap g (place h n q))))) i)
  where
    place : (h n q : ℕ) → n + (h * n + q) ≡ suc h * n + q
    place h n q = grind arith

-- one block against the low weights
block_is : (s : Shift) (b o h : ℕ) (c low : List ℕ)
    → dot (tabulate (2 ^ b) (λ q. shifted_value s b o c (h * 2 ^ b + q))) (weights low)
    ≡ dot (tabulate (2 ^ b) (λ p. get_or c (h * 2 ^ b + p) 0)) (tabulate (2 ^ b) (λ p. extension (tabulate (2 ^ b) (λ q. flag (goes s b o q p))) low))
block_is s b o h c low =
    let f : ℕ → ℕ → ℕ = λ q p. flag (goes s b o q p) in
    let t = tabulate (2 ^ b) (λ p. get_or c (h * 2 ^ b + p) 0) in
    ap (λ w. dot w (weights low)) (tabulate-same (2 ^ b) _ (λ q. dot (tabulate (2 ^ b) (f q)) t) (λ q l. value_is s b o h q c l ∙ sum_to-dot (2 ^ b) (f q) (λ p. get_or c (h * 2 ^ b + p) 0)))
    ∙ dot-exchange (2 ^ b) (2 ^ b) f (weights low) t
    ∙ dot-comm (tabulate (2 ^ b) (λ p. dot (tabulate (2 ^ b) (λ q. f q p)) (weights low))) t
    ∙ ap (dot t) (tabulate-same (2 ^ b) _ (λ p. extension (tabulate (2 ^ b) (λ q. f q p)) low) (λ p l. by_weights_is (tabulate (2 ^ b) (λ q. f q p)) low))

pub shift_is_sum : (s : Shift) (b o : ℕ) (c low high : List ℕ) → length low ≡ b → extension (shifted s b o (2 ^ length high * 2 ^ b) c) (low ++ high) ≡ sum_at (shift_sum s b o c low high) [] b
shift_is_sum s b o c low high hl =
    let H = 2 ^ length high in
    let row = tabulate (2 ^ b) (λ p. extension (tabulate (2 ^ b) (λ q. flag (goes s b o q p))) low) in
    let values = tabulate (2 ^ b) (λ p. extension c (bits_of b p ++ high)) in
    sym (by_weights_is (shifted s b o (H * 2 ^ b) c) (low ++ high))
    ∙ ap (dot (shifted s b o (H * 2 ^ b) c)) (weights-joined low high)
    ∙ dot-blocks (shifted s b o (H * 2 ^ b) c) (weights low) (weights high)
    ∙ (λ i. dot (blocks (length-weights high i) ((length-weights low ∙ ap (λ n. 2 ^ n) hl) i) (shifted s b o (H * 2 ^ b) c) (weights low)) (weights high))
    ∙ ap (λ t. dot t (weights high)) (block-tabulate H (2 ^ b) (shifted_value s b o c) (weights low) ∙ tabulate-same H _ (λ h. dot (tabulate (2 ^ b) (λ p. get_or c (h * 2 ^ b + p) 0)) row) (λ h l. block_is s b o h c low))
    ∙ dot-exchange H (2 ^ b) (λ h p. get_or c (h * 2 ^ b + p) 0) (weights high) row
    ∙ ap (λ t. dot t row) (tabulate-same (2 ^ b) _ (λ p. extension c (bits_of b p ++ high)) (λ p l. by_weights_is (tabulate H (λ h. get_or c (h * 2 ^ b + p) 0)) high ∙ extension_every b p c high l))
    ∙ dot-comm values row
    ∙ sym (pair_sum_is b row values (length-tabulate (2 ^ b) _) (length-tabulate (2 ^ b) _))

-- ---- at all variables
pub pairs_exchanged : (b : ℕ) (f : ℕ → ℕ → ℕ) (ys xs : List ℕ) → pairs_at b f ys xs ≡ pairs_at b (λ p q. f q p) xs ys
pairs_exchanged b f ys xs =
    as_dots f ys xs ∙ dot-exchange (2 ^ b) (2 ^ b) f (weights ys) (weights xs) ∙ sym (as_dots (λ p q. f q p) xs ys)
  where
    as_dots : (f : ℕ → ℕ → ℕ) (ys xs : List ℕ) → pairs_at b f ys xs ≡ dot (tabulate (2 ^ b) (λ q. dot (tabulate (2 ^ b) (f q)) (weights xs))) (weights ys)
    as_dots f ys xs =
        sym (by_weights_is (tabulate (2 ^ b) (λ q. extension (tabulate (2 ^ b) (f q)) xs)) ys)
        ∙ ap (λ t. dot t (weights ys)) (tabulate-same (2 ^ b) _ (λ q. dot (tabulate (2 ^ b) (f q)) (weights xs)) (λ q l. sym (by_weights_is (tabulate (2 ^ b) (f q)) xs)))

-- the values at corners, at any point
corners_at : (b : ℕ) (c high x : List ℕ) → length x ≡ b → extension (tabulate (2 ^ b) (λ p. extension c (bits_of b p ++ high))) x ≡ extension c (x ++ high)
corners_at b c high x h =
    ap (λ n. extension (tabulate (2 ^ n) (λ p. extension c (bits_of n p ++ high))) x) (sym h)
    ∙ ap (λ l. get_or l 0 0) (sym (fold_all_is (tabulate (2 ^ length x) (λ p. extension c (bits_of (length x) p ++ high))) x (length-tabulate (2 ^ length x) _)) ∙ fold_list c x high)

pub shift_last : (s : Shift) (b o : ℕ) (c low high x : List ℕ) → length x ≡ b → sum_at (shift_sum s b o c low high) x 0 ≡ mul (shift_at s b o low x) (extension c (x ++ high))
shift_last s b o c low high x h =
    sum_at-all (shift_sum s b o c low high) x
    ∙ (λ i. mul (pairs_exchanged b (λ p q. flag (goes s b o q p)) x low i) (corners_at b c high x h i))

-- ---- the level of a shifted column
either_fits : (i : ℕ) (t : Bool) (a : ℕ) → a < 2 ^ (2 ^ i) → cond t a 0 < 2 ^ (2 ^ i)
either_fits i true a h = h
either_fits i false a h = size_pos i

pub shifted_fits : (i : ℕ) (s : Shift) (b o n : ℕ) (c : List ℕ) → AllFit i c → AllFit i (shifted s b o n c)
shifted_fits i shl b o n c h = all_fit-tabulate i n (shifted_value shl b o c) (λ x. either_fits i (leb o (x % 2 ^ b)) (get_or c (x - o) 0) (get_or_fits i (x - o) c h))
shifted_fits i shr b o n c h = all_fit-tabulate i n (shifted_value shr b o c) (λ x. either_fits i (ltb (x % 2 ^ b + o) (2 ^ b)) (get_or c (x + o) 0) (get_or_fits i (x + o) c h))
shifted_fits i rol b o n c h = all_fit-tabulate i n (shifted_value rol b o c) (λ x. get_or_fits i (x - x % 2 ^ b + (x % 2 ^ b + (2 ^ b - o % 2 ^ b)) % 2 ^ b) c h)
