-- Numbers as sums of products of generators.
use Rattle.std.proofs.Common.{◌≡◌, ℕ, zero, suc, ◌+◌, ◌*◌, ◌/◌, ◌%◌, ◌^◌, ◌<◌, ◌≤◌, eqb, cond, List, [], ◌∷◌, ◌++◌, map, length, get_or, bit_xor, refl, sym, ◌∙◌, ap, arith}
use Rattle.std.specs.Int.Bits.{xor_shifted}
use Rattle.std.proofs.lemmas.Nat.{pow-add, pow_below, pow_pos, xor_comm}
use Rattle.std.proofs.lemmas.Nat.Bits.{bit_at_lowest, bit_at-suc}
use Rattle.tower_laws.specs.Tower.{mul}
use Rattle.tower_laws.proofs.Field.{identity, field_terms}
use Rattle.tower_laws.proofs.Levels.{field_zero, field_one}
use Rattle.tower_laws.proofs.Roots.{as_join}
use Rattle.cube_laws.specs.Sums.{sum_to, product_to, tabulate}
use Rattle.cube_laws.specs.Extension.{bit, dot, extension}
use Rattle.cube_laws.proofs.Dots.{sum_to-dot}
use Rattle.cube_laws.proofs.Linear.{extension-scale}
use Rattle.cube_laws.proofs.Tabulate.{get_or-tabulate, map-tabulate}
use Rattle.cube_laws.proofs.Weights.{tabulate-same, tabulate-add, product_to-same, extension-fold_low}
use Rattle.word_laws.specs.CodeWord.{subsets}
use Rattle.word_laws.proofs.Words.{length-subsets}
use Rattle.column_laws.specs.Basis.{generators, basis_at}
use Rattle.column_laws.proofs.Subsets.{subsets_at, subsets-last, fold_low-branch}

pub length-generators : (k n : ℕ) → length (generators k n) ≡ n
length-generators k zero = refl
length-generators k (suc n) = ap suc (length-generators (suc k) n)

generators-last : (k n : ℕ) → generators k (suc n) ≡ generators k n ++ 2 ^ (2 ^ (k + n)) ∷ []
generators-last k zero = let e : k ≡ k + zero = omega arith in ap (λ m. 2 ^ (2 ^ m) ∷ []) e
generators-last k (suc n) = let e : suc k + n ≡ k + suc n = omega arith in ap (λ l. 2 ^ (2 ^ k) ∷ l) (generators-last (suc k) n ∙ ap (λ m. generators (suc k) n ++ 2 ^ (2 ^ m) ∷ []) e)

generators_at : (k n i : ℕ) → i < n → get_or (generators k n) i 0 ≡ 2 ^ (2 ^ (k + i))
generators_at k zero i h = absurd (omega arith)
generators_at k (suc n) zero h = let e : k ≡ k + 0 = omega arith in ap (λ m. 2 ^ (2 ^ m)) e
generators_at k (suc n) (suc i) h = let e : suc k + i ≡ k + suc i = omega arith in generators_at (suc k) n i (omega arith) ∙ ap (λ m. 2 ^ (2 ^ m)) e

swap : (a b : ℕ) → mul a b ≡ bit_xor 0 (mul b a)
swap a b = identity (a ∷ b ∷ []) (search field_terms depth 60 fits 20000) refl

-- X_i times 2 ^ k
pub generator_times : (i k : ℕ) → k < 2 ^ i → mul (2 ^ (2 ^ i)) (2 ^ k) ≡ 2 ^ (2 ^ i + k)
generator_times i k h =
    let l : 2 ^ k < 2 ^ (2 ^ i) = pow_below k (2 ^ i) h in
    let z : 0 < 2 ^ (2 ^ i) = omega arith in
    let j = as_join i (2 ^ k) 0 l z in
    let p : 2 ^ (2 ^ i + k) ≡ 2 ^ (2 ^ i) * 2 ^ k = pow-add 2 (2 ^ i) k in
    let q : 2 ^ k * 2 ^ (2 ^ i) + 0 ≡ 2 ^ (2 ^ i) * 2 ^ k = grind arith in
    swap (2 ^ (2 ^ i)) (2 ^ k) ∙ j ∙ q ∙ sym p

-- the products of X_k .. X_(k + n - 1) are the powers of 2 ^ (2 ^ k) in order
pub subsets-generators : (k n : ℕ) → subsets (generators k n) ≡ tabulate (2 ^ n) (λ u. 2 ^ (u * 2 ^ k))
subsets-generators k zero = let e : 0 ≡ 0 * 2 ^ k = omega arith in ap (λ m. 2 ^ m ∷ []) e
subsets-generators k (suc n) =
    let p : 2 ^ suc n ≡ 2 ^ n + 2 ^ n = omega arith in
    ap subsets (generators-last k n)
    ∙ subsets-last (generators k n) (2 ^ (2 ^ (k + n)))
    ∙ ap (λ l. l ++ map (mul (2 ^ (2 ^ (k + n)))) l) (subsets-generators k n)
    ∙ ap (λ l. tabulate (2 ^ n) (λ u. 2 ^ (u * 2 ^ k)) ++ l) (map-tabulate (2 ^ n) (mul (2 ^ (2 ^ (k + n)))) (λ u. 2 ^ (u * 2 ^ k)) ∙ tabulate-same (2 ^ n) _ (λ u. 2 ^ ((2 ^ n + u) * 2 ^ k)) (λ u l. cell u l))
    ∙ sym (ap (λ m. tabulate m (λ u. 2 ^ (u * 2 ^ k))) p ∙ tabulate-add (2 ^ n) (2 ^ n) (λ u. 2 ^ (u * 2 ^ k)))
  where
    below : (u m c : ℕ) → u < m → 0 < c → u * c < c * m
    below u m c l z = let a : suc u * c ≤ m * c = grind arith in let b : suc u * c ≡ u * c + c = grind arith in let d : m * c ≡ c * m = grind arith in omega arith

    cell : (u : ℕ) → u < 2 ^ n → mul (2 ^ (2 ^ (k + n))) (2 ^ (u * 2 ^ k)) ≡ 2 ^ ((2 ^ n + u) * 2 ^ k)
    cell u l =
        let s : 2 ^ (k + n) ≡ 2 ^ k * 2 ^ n = pow-add 2 k n in
        let b = below u (2 ^ n) (2 ^ k) l (pow_pos k) in
        let e : 2 ^ k * 2 ^ n + u * 2 ^ k ≡ (2 ^ n + u) * 2 ^ k = grind arith in
        generator_times (k + n) (u * 2 ^ k) (omega arith) ∙ ap (λ m. 2 ^ m) (ap (λ m. m + u * 2 ^ k) s ∙ e)

-- 2 ^ u is the product of the generators at the bits of u
pub power_is : (n u : ℕ) → u < 2 ^ n → 2 ^ u ≡ product_to n (λ k. cond (eqb (bit u k) 1) (2 ^ (2 ^ k)) 1)
power_is n u h =
    let l = length-generators 0 n in
    let e : u * 2 ^ 0 ≡ u = grind arith in
    ap (λ m. 2 ^ m) (sym e)
    ∙ sym (get_or-tabulate (2 ^ n) u (λ u. 2 ^ (u * 2 ^ 0)) h)
    ∙ ap (λ t. get_or t u 0) (sym (subsets-generators 0 n))
    ∙ subsets_at (generators 0 n) u (let q = ap (λ m. 2 ^ m) l in omega arith)
    ∙ ap (λ m. product_to m (λ i. cond (eqb (bit u i) 1) (get_or (generators 0 n) i 0) 1)) l
    ∙ product_to-same n (λ i. cond (eqb (bit u i) 1) (get_or (generators 0 n) i 0) 1) (λ k. cond (eqb (bit u k) 1) (2 ^ (2 ^ k)) 1)
    (λ i m. let z : 0 + i ≡ i = omega arith in ap (λ x. cond (eqb (bit u i) 1) x 1) (generators_at 0 n i m ∙ ap (λ m. 2 ^ (2 ^ m)) z))

-- ---- a number is the sum of its bits times powers of 2
bit_times : (b x : ℕ) → b < 2 → mul b x ≡ b * x
bit_times zero x h = let e : zero * x ≡ 0 = omega arith in field_zero x ∙ sym e
bit_times (suc zero) x h = let e : suc zero * x ≡ x = omega arith in field_one x ∙ sym e
bit_times (suc (suc b)) x h = absurd (omega arith)

shifted_bits : (n t j : ℕ) → t < 2 ^ n → dot (tabulate n (bit t)) (tabulate n (λ u. 2 ^ (j + u))) ≡ t * 2 ^ j
shifted_bits zero t j h = let e : t ≡ 0 = omega arith in sym (ap (λ w. w * 2 ^ j) e ∙ omega arith)
shifted_bits (suc n) t j h =
    let p : 2 ^ suc n ≡ 2 * 2 ^ n = omega arith in
    let q : 2 ^ suc j ≡ 2 * 2 ^ j = omega arith in
    let b0 = bit_at_lowest t in
    let z : j + 0 ≡ j = omega arith in
    let l : t % 2 < 2 = omega arith in
    let m : (t % 2) * 2 ^ j < 2 ^ suc j = low (t % 2) (2 ^ j) l (2 ^ suc j) q (pow_pos j) in
    let r = shifted_bits n (t / 2) (suc j) (omega arith) in
    let s = xor_shifted (t / 2) (suc j) ((t % 2) * 2 ^ j) m in
    let e : t ≡ 2 * (t / 2) + t % 2 = omega arith in
    (λ i. bit_xor (mul (b0 i) (2 ^ (z i))) (dot (tabulate-same n (λ k. bit t (suc k)) (bit (t / 2)) (λ k _. bit_at-suc t k) i) (tabulate-same n (λ u. 2 ^ (j + suc u)) (λ u. 2 ^ (suc j + u)) (λ u _. let e : j + suc u ≡ suc j + u = omega arith in ap (λ w. 2 ^ w) e) i)))
    ∙ (λ i. bit_xor (bit_times (t % 2) (2 ^ j) l i) (r i))
    ∙ xor_comm ((t % 2) * 2 ^ j) ((t / 2) * 2 ^ suc j) ∙ s ∙ whole (t / 2) (t % 2) (2 ^ j) (2 ^ suc j) t q e
  where
    low : (b x : ℕ) → b < 2 → (y : ℕ) → y ≡ 2 * x → 0 < x → b * x < y
    low zero x h y e l = omega arith
    low (suc zero) x h y e l = omega arith
    low (suc (suc b)) x h y e l = absurd (omega arith)

    whole : (a b x y t : ℕ) → y ≡ 2 * x → t ≡ 2 * a + b → a * y + b * x ≡ t * x
    whole a b x y t e h = rw (e, h) (grind arith)

pub bits_spell : (n t : ℕ) → t < 2 ^ n → dot (tabulate n (bit t)) (tabulate n (λ u. 2 ^ u)) ≡ t
bits_spell n t h =
    ap (dot (tabulate n (bit t))) (tabulate-same n (λ u. 2 ^ u) (λ u. 2 ^ (0 + u)) (λ u _. let e : u ≡ 0 + u = omega arith in ap (λ w. 2 ^ w) e)) ∙ shifted_bits n t 0 h ∙ omega arith

pub number_is : (n a : ℕ) → a < 2 ^ n → sum_to n (λ u. mul (bit a u) (2 ^ u)) ≡ a
number_is n a h = sum_to-dot n (bit a) (λ u. 2 ^ u) ∙ bits_spell n a h

-- ---- the extension of the powers
one_cell : extension (1 ∷ []) [] ≡ 1
one_cell = identity [] (search field_terms depth 60 fits 20000) refl

products_extend : (k i : ℕ) (ys : List ℕ) → length ys ≡ i → extension (subsets (generators k i)) ys ≡ basis_at k ys
products_extend k zero [] h = one_cell
products_extend k (suc i) [] h = absurd (omega arith)
products_extend k zero (y ∷ ys) h = absurd (omega arith)
products_extend k (suc i) (y ∷ ys) h =
    let l = length-subsets (generators k (suc i)) ∙ ap (λ n. 2 ^ n) (length-generators k (suc i) ∙ sym h) in
    extension-fold_low (subsets (generators k (suc i))) y ys l
    ∙ ap (λ t. extension t ys) (fold_low-branch (2 ^ (2 ^ k)) y (subsets (generators (suc k) i)))
    ∙ extension-scale (bit_xor 1 (mul y (bit_xor 1 (2 ^ (2 ^ k))))) (subsets (generators (suc k) i)) ys
    ∙ ap (mul (bit_xor 1 (mul y (bit_xor 1 (2 ^ (2 ^ k)))))) (products_extend (suc k) i ys (omega arith))

pub powers_extend : (k : ℕ) (ys : List ℕ) → extension (tabulate (2 ^ length ys) (λ u. 2 ^ (u * 2 ^ k))) ys ≡ basis_at k ys
powers_extend k ys = ap (λ t. extension t ys) (sym (subsets-generators k (length ys))) ∙ products_extend k (length ys) ys refl
