-- The step that is 1 below a number.
use Rattle.std.proofs.Common.{◌≡◌, ℕ, suc, ◌+◌, ◌*◌, ◌^◌, ◌<◌, ◌≤◌, ltb, List, [], ◌∷◌, ◌++◌, length, bit_xor, refl, ◌∙◌, ap, arith}
use Rattle.std.proofs.lemmas.Bool.{lt-ltb}
use Rattle.std.proofs.lemmas.Bool.Decides.{nat_tests}
use Rattle.tower_laws.specs.Tower.{mul}
use Rattle.tower_laws.proofs.Field.{identity, field_terms}
use Rattle.cube_laws.specs.Sums.{tabulate}
use Rattle.cube_laws.specs.Extension.{extension, fold_low}
use Rattle.cube_laws.proofs.Coordinates.{extension_halves_of, extension-even}
use Rattle.cube_laws.proofs.Linear.{extension-same, extension-zeros, extension-constant, fold_low-tabulate}
use Rattle.cube_laws.proofs.Weights.{length-tabulate, tabulate-same}
use Rattle.shift_laws.specs.Shifts.{flag, step_down}

pub step_none : (z : List ℕ) → step_down 0 z ≡ 0
step_none z = extension-same (2 ^ length z) (λ p. flag (ltb p 0)) (λ p. 0) z (λ p l. none p) ∙ extension-zeros (2 ^ length z) z
  where
    none : (p : ℕ) → flag (ltb p 0) ≡ 0
    none p = grind (arith, nat_tests)

below : (p n : ℕ) → p < n → flag (ltb p n) ≡ 1
below p n h = ap flag (lt-ltb p n h)

-- with at least as many rows as positions it is 1 throughout
pub step_above : (n : ℕ) (z : List ℕ) → 2 ^ length z ≤ n → step_down n z ≡ 1
step_above n z h = extension-same (2 ^ length z) (λ p. flag (ltb p n)) (λ p. 1) z (λ p l. below p n (omega arith)) ∙ extension-constant 1 z

pub step_all : (z : List ℕ) → step_down (2 ^ length z) z ≡ 1
step_all z = step_above (2 ^ length z) z (omega arith)

low_end : (x a : ℕ) → bit_xor (mul (bit_xor 1 x) a) (mul x 0) ≡ mul (bit_xor 1 x) a
low_end x a = identity (x ∷ a ∷ []) (search field_terms depth 60 fits 20000) refl

high_end : (x a : ℕ) → bit_xor (mul (bit_xor 1 x) 1) (mul x a) ≡ bit_xor (bit_xor 1 x) (mul x a)
high_end x a = identity (x ∷ a ∷ []) (search field_terms depth 60 fits 20000) refl

pub step_low : (n x : ℕ) (low : List ℕ) → n ≤ 2 ^ length low → step_down n (low ++ x ∷ []) ≡ mul (bit_xor 1 x) (step_down n low)
step_low n x low h =
    extension_halves_of (λ p. flag (ltb p n)) low x
    ∙ ap (λ w. bit_xor (mul (bit_xor 1 x) (step_down n low)) (mul x w))
    (extension-same (2 ^ length low) (λ p. flag (ltb (2 ^ length low + p) n)) (λ p. 0) low (λ p l. late (2 ^ length low) p h) ∙ extension-zeros (2 ^ length low) low)
    ∙ low_end x (step_down n low)
  where
    late : (m p : ℕ) → n ≤ m → flag (ltb (m + p) n) ≡ 0
    late m p h = grind (arith, nat_tests)

pub step_high : (n x : ℕ) (low : List ℕ) → step_down (2 ^ length low + n) (low ++ x ∷ []) ≡ bit_xor (bit_xor 1 x) (mul x (step_down n low))
step_high n x low =
    extension_halves_of (λ p. flag (ltb p (2 ^ length low + n))) low x
    ∙ (λ i. bit_xor (mul (bit_xor 1 x) ((extension-same (2 ^ length low) (λ p. flag (ltb p (2 ^ length low + n))) (λ p. 1) low (λ p l. below p (2 ^ length low + n) (omega arith)) ∙ extension-constant 1 low) i))
    (mul x (extension-same (2 ^ length low) (λ p. flag (ltb (2 ^ length low + p) (2 ^ length low + n))) (λ p. flag (ltb p n)) low (λ p l. ap flag (moved (2 ^ length low) p)) i)))
    ∙ high_end x (step_down n low)
  where
    moved : (m p : ℕ) → ltb (m + p) (m + n) ≡ ltb p n
    moved m p = grind (arith, nat_tests)

-- ---- rows of several values
flat : (x c : ℕ) → bit_xor c (mul x (bit_xor c c)) ≡ c
flat x c = identity (x ∷ c ∷ []) (search field_terms depth 60 fits 20000) refl

-- twice as many positions with one more coordinate, the lowest
step_twice : (n x : ℕ) (z : List ℕ) → step_down (2 * n) (x ∷ z) ≡ step_down n z
step_twice n x z =
    let q : 2 ^ suc (length z) ≡ 2 * 2 ^ length z = omega arith in
    extension-even (2 ^ length z) (tabulate (2 ^ suc (length z)) (λ p. flag (ltb p (2 * n)))) x z (length-tabulate (2 ^ suc (length z)) (λ p. flag (ltb p (2 * n))) ∙ q)
    ∙ ap (λ m. extension (fold_low x (tabulate m (λ p. flag (ltb p (2 * n))))) z) q
    ∙ ap (λ t. extension t z) (fold_low-tabulate x (2 ^ length z) (λ p. flag (ltb p (2 * n)))
    ∙ tabulate-same (2 ^ length z) _ (λ u. flag (ltb u n)) (λ u l. (λ i. bit_xor (flag (even u i)) (mul x (bit_xor (flag (even u i)) (flag (odd u i))))) ∙ flat x (flag (ltb u n))))
  where
    even : (u : ℕ) → ltb (2 * u) (2 * n) ≡ ltb u n
    even u = grind (arith, nat_tests)

    odd : (u : ℕ) → ltb (2 * u + 1) (2 * n) ≡ ltb u n
    odd u = grind (arith, nat_tests)

pub step_rows : (n : ℕ) (low high : List ℕ) → step_down (n * 2 ^ length low) (low ++ high) ≡ step_down n high
step_rows n [] high = let e : n * 2 ^ 0 ≡ n = grind arith in ap (λ m. step_down m high) e
step_rows n (x ∷ low) high =
    let p : 2 ^ suc (length low) ≡ 2 * 2 ^ length low = omega arith in
    let e : n * 2 ^ suc (length low) ≡ 2 * (n * 2 ^ length low) = ap (λ w. n * w) p ∙ grind arith in
    ap (λ m. step_down m (x ∷ (low ++ high))) e ∙ step_twice (n * 2 ^ length low) x (low ++ high) ∙ step_rows n low high
