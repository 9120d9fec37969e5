-- The table of a shift at two points, by a carry along the bits.
use Rattle.std.proofs.Common.{◌≡◌, ◌≢◌, ℕ, zero, suc, ◌+◌, ◌-◌, ◌*◌, ◌/◌, ◌%◌, ◌^◌, ◌<◌, ◌≤◌, ◌⊎◌, inl, inr, eqb, Bool, true, false, cond, List, [], ◌∷◌, length, bit_xor, refl, sym, ◌∙◌, ap, arith}
use Rattle.std.proofs.lemmas.Bool.{cases_lt}
use Rattle.std.proofs.lemmas.Bool.Decides.{eqb_tells}
use Rattle.std.proofs.lemmas.Nat.{pow_pos}
use Rattle.tower_laws.specs.Tower.{mul}
use Rattle.tower_laws.proofs.Field.{identity, field_terms}
use Rattle.cube_laws.specs.Sums.{tabulate}
use Rattle.cube_laws.specs.Extension.{extension, fold_low}
use Rattle.cube_laws.proofs.Linear.{extension-same, extension-zeros, extension-scale, extension-sums, fold_low-tabulate}
use Rattle.cube_laws.proofs.Tabulate.{map-tabulate, sums-tabulate}
use Rattle.cube_laws.proofs.Weights.{length-tabulate, extension-fold_low}
use Rattle.shift_laws.specs.Shifts.{shl, shr, rol, flag, pairs_at, shift_at, carried, pick}
use Rattle.shift_laws.proofs.Moves.{same_tests, not_equal, mod_below, mod_above, mod_of_sum, pairs_exchanged}

-- ---- one bit
table_sum : (n : ℕ) (f g : ℕ → ℕ) (z : List ℕ) → extension (tabulate n (λ u. bit_xor (f u) (g u))) z ≡ bit_xor (extension (tabulate n f) z) (extension (tabulate n g) z)
table_sum n f g z = ap (λ t. extension t z) (sym (sums-tabulate n f g)) ∙ extension-sums (tabulate n f) (tabulate n g) z

line_table : (n x : ℕ) (f g : ℕ → ℕ) (z : List ℕ) → extension (tabulate n (λ u. bit_xor (f u) (mul x (bit_xor (f u) (g u))))) z ≡ bit_xor (extension (tabulate n f) z) (mul x (bit_xor (extension (tabulate n f) z) (extension (tabulate n g) z)))
line_table n x f g z =
    table_sum n f (λ u. mul x (bit_xor (f u) (g u))) z
    ∙ ap (bit_xor (extension (tabulate n f) z)) (ap (λ t. extension t z) (sym (map-tabulate n (mul x) (λ u. bit_xor (f u) (g u)))) ∙ extension-scale x (tabulate n (λ u. bit_xor (f u) (g u))) z ∙ ap (mul x) (table_sum n f g z))

-- the first coordinate chooses between even and odd positions
split : (b x : ℕ) (f : ℕ → ℕ) (xs : List ℕ) → length xs ≡ b
    → extension (tabulate (2 ^ suc b) f) (x ∷ xs) ≡ bit_xor (extension (tabulate (2 ^ b) (λ p. f (2 * p))) xs) (mul x (bit_xor (extension (tabulate (2 ^ b) (λ p. f (2 * p))) xs) (extension (tabulate (2 ^ b) (λ p. f (2 * p + 1))) xs)))
split b x f xs h =
    let n : 2 ^ suc b ≡ 2 * 2 ^ b = omega arith in
    extension-fold_low (tabulate (2 ^ suc b) f) x xs (length-tabulate (2 ^ suc b) f ∙ ap (λ k. 2 ^ suc k) (sym h))
    ∙ ap (λ k. extension (fold_low x (tabulate k f)) xs) n
    ∙ ap (λ t. extension t xs) (fold_low-tabulate x (2 ^ b) f)
    ∙ line_table (2 ^ b) x (λ p. f (2 * p)) (λ p. f (2 * p + 1)) xs

-- of both first coordinates
split_pairs : (b x y : ℕ) (f : ℕ → ℕ → ℕ) (xs ys : List ℕ) → length xs ≡ b → length ys ≡ b
    → pairs_at (suc b) f (y ∷ ys) (x ∷ xs)
    ≡ bit_xor (bit_xor (pairs_at b (λ q p. f (2 * q) (2 * p)) ys xs) (mul x (bit_xor (pairs_at b (λ q p. f (2 * q) (2 * p)) ys xs) (pairs_at b (λ q p. f (2 * q) (2 * p + 1)) ys xs))))
    (mul y (bit_xor (bit_xor (pairs_at b (λ q p. f (2 * q) (2 * p)) ys xs) (mul x (bit_xor (pairs_at b (λ q p. f (2 * q) (2 * p)) ys xs) (pairs_at b (λ q p. f (2 * q) (2 * p + 1)) ys xs))))
    (bit_xor (pairs_at b (λ q p. f (2 * q + 1) (2 * p)) ys xs) (mul x (bit_xor (pairs_at b (λ q p. f (2 * q + 1) (2 * p)) ys xs) (pairs_at b (λ q p. f (2 * q + 1) (2 * p + 1)) ys xs))))))
split_pairs b x y f xs ys hx hy =
    let even = extension-same (2 ^ b) _ _ ys (λ q l. split b x (f (2 * q)) xs hx) ∙ line_table (2 ^ b) x (λ q. extension (tabulate (2 ^ b) (λ p. f (2 * q) (2 * p))) xs) (λ q. extension (tabulate (2 ^ b) (λ p. f (2 * q) (2 * p + 1))) xs) ys in
    let odd = extension-same (2 ^ b) _ _ ys (λ q l. split b x (f (2 * q + 1)) xs hx) ∙ line_table (2 ^ b) x (λ q. extension (tabulate (2 ^ b) (λ p. f (2 * q + 1) (2 * p))) xs) (λ q. extension (tabulate (2 ^ b) (λ p. f (2 * q + 1) (2 * p + 1))) xs) ys in
    split b y (λ q. extension (tabulate (2 ^ suc b) (f q)) (x ∷ xs)) ys hy
    ∙ (λ i. bit_xor (even i) (mul y (bit_xor (even i) (odd i))))

-- one bit of a sum with a carry
one_bit : (b o c d i j q p : ℕ) → i < 2 → carried (suc b) o c d (2 * q + i) (2 * p + j) ≡ cond (eqb i ((j + o % 2 + c) % 2)) (carried b (o / 2) ((j + o % 2 + c) / 2) d q p) 0
one_bit b o c d i j q p h =
    let e : d * 2 ^ suc b ≡ 2 * (d * 2 ^ b) = twice d (2 ^ b) (2 ^ suc b) (omega arith) in
    go (d * 2 ^ b) (d * 2 ^ suc b) e (eqb_tells i ((j + o % 2 + c) % 2)) (eqb_tells (q + d * 2 ^ b) (p + o / 2 + (j + o % 2 + c) / 2)) (eqb_tells (2 * q + i + d * 2 ^ suc b) (2 * p + j + o + c))
  where
    twice : (d m n : ℕ) → n ≡ 2 * m → d * n ≡ 2 * (d * m)
    twice d m n e = rw e (grind arith)

    go : (m n : ℕ) → n ≡ 2 * m → {s t u : Bool} → ((s ≡ true) × (i ≡ (j + o % 2 + c) % 2)) ⊎ ((s ≡ false) × (i ≢ (j + o % 2 + c) % 2))
        → ((t ≡ true) × (q + m ≡ p + o / 2 + (j + o % 2 + c) / 2)) ⊎ ((t ≡ false) × (q + m ≢ p + o / 2 + (j + o % 2 + c) / 2))
        → ((u ≡ true) × (2 * q + i + n ≡ 2 * p + j + o + c)) ⊎ ((u ≡ false) × (2 * q + i + n ≢ 2 * p + j + o + c)) → flag u ≡ cond s (flag t) 0
    go m n e (inl (s, hs)) (inl (t, ht)) (inl (u, hu)) = rw (s, t, u) refl
    go m n e (inl (s, hs)) (inl (t, ht)) (inr (u, hu)) = absurd (hu (omega arith))
    go m n e (inl (s, hs)) (inr (t, ht)) (inl (u, hu)) = absurd (ht (omega arith))
    go m n e (inl (s, hs)) (inr (t, ht)) (inr (u, hu)) = rw (s, t, u) refl
    go m n e (inr (s, hs)) t (inl (u, hu)) = absurd (hs (omega arith))
    go m n e (inr (s, hs)) t (inr (u, hu)) = rw (s, u) refl

pairs-same : (b : ℕ) (f g : ℕ → ℕ → ℕ) (ys xs : List ℕ) → ((q p : ℕ) → f q p ≡ g q p) → pairs_at b f ys xs ≡ pairs_at b g ys xs
pairs-same b f g ys xs h = extension-same (2 ^ b) _ _ ys (λ q l. extension-same (2 ^ b) (f q) (g q) xs (λ p k. h q p))

pairs-zero : (b : ℕ) (ys xs : List ℕ) → pairs_at b (λ q p. 0) ys xs ≡ 0
pairs-zero b ys xs = extension-same (2 ^ b) _ (λ q. 0) ys (λ q l. extension-zeros (2 ^ b) xs) ∙ extension-zeros (2 ^ b) ys

if_same : (b : ℕ) (s : Bool) (f : ℕ → ℕ → ℕ) (ys xs : List ℕ) → pairs_at b (λ q p. cond s (f q p) 0) ys xs ≡ cond s (pairs_at b f ys xs) 0
if_same b true f ys xs = refl
if_same b false f ys xs = pairs-zero b ys xs

quarter : (b o c d i j : ℕ) (ys xs : List ℕ) → i < 2 → pairs_at b (λ q p. carried (suc b) o c d (2 * q + i) (2 * p + j)) ys xs ≡ cond (eqb i ((j + o % 2 + c) % 2)) (pairs_at b (carried b (o / 2) ((j + o % 2 + c) / 2) d) ys xs) 0
quarter b o c d i j ys xs h =
    pairs-same b _ (λ q p. cond (eqb i ((j + o % 2 + c) % 2)) (carried b (o / 2) ((j + o % 2 + c) / 2) d q p) 0) ys xs (λ q p. one_bit b o c d i j q p h)
    ∙ if_same b (eqb i ((j + o % 2 + c) % 2)) (carried b (o / 2) ((j + o % 2 + c) / 2) d) ys xs

both : (x y u v s t : ℕ) → s < 2 → t < 2
    → bit_xor (bit_xor (cond (eqb 0 s) u 0) (mul x (bit_xor (cond (eqb 0 s) u 0) (cond (eqb 0 t) v 0)))) (mul y (bit_xor (bit_xor (cond (eqb 0 s) u 0) (mul x (bit_xor (cond (eqb 0 s) u 0) (cond (eqb 0 t) v 0)))) (bit_xor (cond (eqb 1 s) u 0) (mul x (bit_xor (cond (eqb 1 s) u 0) (cond (eqb 1 t) v 0))))))
    ≡ bit_xor (mul (mul (bit_xor 1 x) (pick s y)) u) (mul (mul x (pick t y)) v)
both x y u v zero zero h k = identity (x ∷ y ∷ u ∷ v ∷ []) (search field_terms depth 60 fits 20000) refl
both x y u v zero (suc zero) h k = identity (x ∷ y ∷ u ∷ v ∷ []) (search field_terms depth 60 fits 20000) refl
both x y u v (suc zero) zero h k = identity (x ∷ y ∷ u ∷ v ∷ []) (search field_terms depth 60 fits 20000) refl
both x y u v (suc zero) (suc zero) h k = identity (x ∷ y ∷ u ∷ v ∷ []) (search field_terms depth 60 fits 20000) refl
both x y u v (suc (suc s)) t h k = absurd (omega arith)
both x y u v s (suc (suc t)) h k = absurd (omega arith)

pub carry_step : (b o c d x y : ℕ) (xs ys : List ℕ) → length xs ≡ b → length ys ≡ b
    → pairs_at (suc b) (carried (suc b) o c d) (y ∷ ys) (x ∷ xs)
    ≡ bit_xor (mul (mul (bit_xor 1 x) (pick ((o % 2 + c) % 2) y)) (pairs_at b (carried b (o / 2) ((o % 2 + c) / 2) d) ys xs))
    (mul (mul x (pick ((1 + o % 2 + c) % 2) y)) (pairs_at b (carried b (o / 2) ((1 + o % 2 + c) / 2) d) ys xs))
carry_step b o c d x y xs ys hx hy =
    let z : 0 + o % 2 + c ≡ o % 2 + c = omega arith in
    let q00 = even_place b (carried (suc b) o c d) ys xs ∙ quarter b o c d 0 0 ys xs (omega arith) ∙ ap (λ s. cond (eqb 0 (s % 2)) (pairs_at b (carried b (o / 2) (s / 2) d) ys xs) 0) z in
    let q01 = even_left b 1 (carried (suc b) o c d) ys xs ∙ quarter b o c d 0 1 ys xs (omega arith) in
    let q10 = even_right b 1 (carried (suc b) o c d) ys xs ∙ quarter b o c d 1 0 ys xs (omega arith) ∙ ap (λ s. cond (eqb 1 (s % 2)) (pairs_at b (carried b (o / 2) (s / 2) d) ys xs) 0) z in
    let q11 = quarter b o c d 1 1 ys xs (omega arith) in
    split_pairs b x y (carried (suc b) o c d) xs ys hx hy
    ∙ (λ i. bit_xor (bit_xor (q00 i) (mul x (bit_xor (q00 i) (q01 i)))) (mul y (bit_xor (bit_xor (q00 i) (mul x (bit_xor (q00 i) (q01 i)))) (bit_xor (q10 i) (mul x (bit_xor (q10 i) (q11 i)))))))
    ∙ both x y _ _ ((o % 2 + c) % 2) ((1 + o % 2 + c) % 2) (omega arith) (omega arith)
  where
    even_place : (b : ℕ) (f : ℕ → ℕ → ℕ) (ys xs : List ℕ) → pairs_at b (λ q p. f (2 * q) (2 * p)) ys xs ≡ pairs_at b (λ q p. f (2 * q + 0) (2 * p + 0)) ys xs
    even_place b f ys xs = pairs-same b _ _ ys xs (λ q p. let a : 2 * q ≡ 2 * q + 0 = omega arith in let e : 2 * p ≡ 2 * p + 0 = omega arith in (λ i. f (a i) (e i)))

    even_left : (b j : ℕ) (f : ℕ → ℕ → ℕ) (ys xs : List ℕ) → pairs_at b (λ q p. f (2 * q) (2 * p + j)) ys xs ≡ pairs_at b (λ q p. f (2 * q + 0) (2 * p + j)) ys xs
    even_left b j f ys xs = pairs-same b _ _ ys xs (λ q p. let a : 2 * q ≡ 2 * q + 0 = omega arith in (λ i. f (a i) (2 * p + j)))

    even_right : (b i : ℕ) (f : ℕ → ℕ → ℕ) (ys xs : List ℕ) → pairs_at b (λ q p. f (2 * q + i) (2 * p)) ys xs ≡ pairs_at b (λ q p. f (2 * q + i) (2 * p + 0)) ys xs
    even_right b i f ys xs = pairs-same b _ _ ys xs (λ q p. let e : 2 * p ≡ 2 * p + 0 = omega arith in (λ t. f (2 * q + i) (e t)))

-- ---- no bit
one_cell : (c : ℕ) → extension (c ∷ []) [] ≡ c
one_cell c = identity (c ∷ []) (search field_terms depth 60 fits 20000) refl

pub carry_start : (o c d : ℕ) → pairs_at 0 (carried 0 o c d) [] [] ≡ flag (eqb d (o + c))
carry_start o c d =
    let e : 0 + d * 2 ^ 0 ≡ d = grind arith in
    let k : 0 + o + c ≡ o + c = omega arith in
    one_cell (extension (carried 0 o c d 0 0 ∷ []) []) ∙ one_cell (carried 0 o c d 0 0) ∙ (λ i. flag (eqb (e i) (k i)))

-- ---- the three shifts
nothing_carried : (b o q p : ℕ) → flag (eqb q (p + o)) ≡ carried b o 0 0 q p
nothing_carried b o q p =
    let e : q ≡ q + 0 * 2 ^ b = omega arith in
    let k : p + o ≡ p + o + 0 = omega arith in
    (λ i. flag (eqb (e i) (k i)))

pub up_is : (b o : ℕ) (ys xs : List ℕ) → shift_at shl b o ys xs ≡ pairs_at b (carried b o 0 0) ys xs
up_is b o ys xs = pairs-same b (λ q p. flag (eqb q (p + o))) (carried b o 0 0) ys xs (λ q p. nothing_carried b o q p)

pub down_is : (b o : ℕ) (ys xs : List ℕ) → shift_at shr b o ys xs ≡ pairs_at b (carried b o 0 0) xs ys
down_is b o ys xs =
    pairs-same b (λ q p. flag (eqb (q + o) p)) (λ q p. carried b o 0 0 p q) ys xs (λ q p. ap flag (same_tests (q + o) p p (q + o) sym sym) ∙ nothing_carried b o p q)
    ∙ pairs_exchanged b (λ q p. carried b o 0 0 p q) ys xs

pairs-below : (b : ℕ) (f g : ℕ → ℕ → ℕ) (ys xs : List ℕ) → ((q p : ℕ) → q < 2 ^ b → p < 2 ^ b → f q p ≡ g q p) → pairs_at b f ys xs ≡ pairs_at b g ys xs
pairs-below b f g ys xs h = extension-same (2 ^ b) _ _ ys (λ q l. extension-same (2 ^ b) (f q) (g q) xs (λ p k. h q p l k))

pairs_sum : (b : ℕ) (f g : ℕ → ℕ → ℕ) (ys xs : List ℕ) → pairs_at b (λ q p. bit_xor (f q p) (g q p)) ys xs ≡ bit_xor (pairs_at b f ys xs) (pairs_at b g ys xs)
pairs_sum b f g ys xs =
    extension-same (2 ^ b) _ (λ q. bit_xor (extension (tabulate (2 ^ b) (f q)) xs) (extension (tabulate (2 ^ b) (g q)) xs)) ys (λ q l. table_sum (2 ^ b) (f q) (g q) xs)
    ∙ table_sum (2 ^ b) (λ q. extension (tabulate (2 ^ b) (f q)) xs) (λ q. extension (tabulate (2 ^ b) (g q)) xs) ys

-- round by o: up, or past the block's end
round_cell : (m o q p : ℕ) → 0 < m → q < m → p < m → flag (eqb q ((p + o) % m)) ≡ bit_xor (flag (eqb (q + 0 * m) (p + o % m + 0))) (flag (eqb (q + 1 * m) (p + o % m + 0)))
round_cell m o q p z hq hp =
    let r : o % m < m = omega arith in
    ap (λ n. flag (eqb q n)) (mod_of_sum p o m z) ∙ go (o % m) r (cases_lt (p + o % m) m)
  where
    go : (k : ℕ) → k < m → (p + k < m) ⊎ (m ≤ p + k) → flag (eqb q ((p + k) % m)) ≡ bit_xor (flag (eqb (q + 0 * m) (p + k + 0))) (flag (eqb (q + 1 * m) (p + k + 0)))
    go k hk (inl l) =
        let a = same_tests q (p + k) (q + 0 * m) (p + k + 0) (λ e. omega arith) (λ e. omega arith) in
        let c = not_equal (q + 1 * m) (p + k + 0) (λ e. omega arith) in
        ap (λ n. flag (eqb q n)) (mod_below (p + k) m l) ∙ ap flag a ∙ only (flag (eqb (q + 0 * m) (p + k + 0))) ∙ ap (λ t. bit_xor (flag (eqb (q + 0 * m) (p + k + 0))) (flag t)) (sym c)
      where
        only : (w : ℕ) → w ≡ bit_xor w 0
        only w = identity (w ∷ []) (search field_terms depth 60 fits 20000) refl
    go k hk (inr l) =
        let a = same_tests q (p + k - m) (q + 1 * m) (p + k + 0) (λ e. omega arith) (λ e. omega arith) in
        let c = not_equal (q + 0 * m) (p + k + 0) (λ e. omega arith) in
        ap (λ n. flag (eqb q n)) (mod_above (p + k) m l (omega arith)) ∙ ap flag a ∙ ap (λ t. bit_xor (flag t) (flag (eqb (q + 1 * m) (p + k + 0)))) (sym c)

pub round_is : (b o : ℕ) (ys xs : List ℕ) → shift_at rol b o ys xs ≡ bit_xor (pairs_at b (carried b (o % 2 ^ b) 0 0) ys xs) (pairs_at b (carried b (o % 2 ^ b) 0 1) ys xs)
round_is b o ys xs =
    pairs-below b (λ q p. flag (eqb q ((p + o) % 2 ^ b))) (λ q p. bit_xor (carried b (o % 2 ^ b) 0 0 q p) (carried b (o % 2 ^ b) 0 1 q p)) ys xs (λ q p l k. round_cell (2 ^ b) o q p (pow_pos b) l k)
    ∙ pairs_sum b (carried b (o % 2 ^ b) 0 0) (carried b (o % 2 ^ b) 0 1) ys xs
