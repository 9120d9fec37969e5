-- eq of two points.
use Rattle.std.proofs.Common.{◌≡◌, ℕ, suc, ◌/◌, ◌^◌, List, [], ◌∷◌, ◌++◌, map, length, get_or, bit_xor, refl, sym, ◌∙◌, ap, arith}
use Rattle.std.proofs.lemmas.Nat.Bits.{bit_at_lowest, bit_at-suc}
use Rattle.tower_laws.specs.Tower.{mul}
use Rattle.tower_laws.proofs.Field.{identity, field_terms}
use Rattle.tower_laws.proofs.Levels.{field_assoc, field_one}
use Rattle.cube_laws.specs.Sums.{sum_to, tabulate}
use Rattle.cube_laws.specs.Extension.{bit, eq, eq_points, spread, weights, extension, fold_low, bits_of}
use Rattle.cube_laws.proofs.Folding.{length-weights}
use Rattle.cube_laws.proofs.Weights.{extension-fold_low, product_to-same, sum_to-same, weights_at}
use Rattle.cube_laws.proofs.Tabulate.{entries}
use Rattle.cube_laws.proofs.Linear.{extension-scale}

-- eq of one coordinate of each
abbrev pub eq_one : ℕ → ℕ → ℕ
eq_one x y = bit_xor (mul x y) (mul (bit_xor 1 x) (bit_xor 1 y))

one_comm : (x y : ℕ) → eq_one x y ≡ eq_one y x
one_comm x y = identity (x ∷ y ∷ []) (search field_terms depth 60 fits 20000) refl

pub eq_points-comm : (x y : List ℕ) → eq_points x y ≡ eq_points y x
eq_points-comm [] [] = refl
eq_points-comm [] (b ∷ y) = refl
eq_points-comm (a ∷ x) [] = refl
eq_points-comm (a ∷ x) (b ∷ y) = (λ i. mul (one_comm a b i) (eq_points-comm x y i))

pub eq_points-append : (x y u v : List ℕ) → length x ≡ length u → eq_points (x ++ y) (u ++ v) ≡ mul (eq_points x u) (eq_points y v)
eq_points-append [] y [] v h = sym (field_one (eq_points y v))
eq_points-append [] y (b ∷ u) v h = absurd (omega arith)
eq_points-append (a ∷ x) y [] v h = absurd (omega arith)
eq_points-append (a ∷ x) y (b ∷ u) v h = ap (mul (eq_one a b)) (eq_points-append x y u v (omega arith)) ∙ sym (field_assoc (eq_one a b) (eq_points x u) (eq_points y v))

-- a corner is the point of its bits
pub eq_is : (z : List ℕ) (p : ℕ) → eq z p ≡ eq_points z (bits_of (length z) p)
eq_is [] p = refl
eq_is (x ∷ z) p =
    let b = bit_at_lowest p in
    let r = product_to-same (length z) (λ k. eq_one (get_or z k 0) (bit p (suc k))) (λ k. eq_one (get_or z k 0) (bit (p / 2) k)) (λ k l. ap (eq_one (get_or z k 0)) (bit_at-suc p k)) ∙ eq_is z (p / 2) in
    (λ i. mul (eq_one x (b i)) (r i))

pub extension_is : (table z : List ℕ) → extension table z ≡ sum_to (2 ^ length z) (λ p. mul (get_or table p 0) (eq_points z (bits_of (length z) p)))
extension_is table z = sum_to-same (2 ^ length z) (λ p. mul (get_or table p 0) (eq z p)) (λ p. mul (get_or table p 0) (eq_points z (bits_of (length z) p))) (λ p l. ap (mul (get_or table p 0)) (eq_is z p))

-- ---- the extension of eq's table
cell : (x y t : ℕ) → bit_xor (mul t (bit_xor 1 x)) (mul y (bit_xor (mul t (bit_xor 1 x)) (mul t x))) ≡ mul (bit_xor (mul x y) (mul (bit_xor 1 x) (bit_xor 1 y))) t
cell x y t = identity (x ∷ y ∷ t ∷ []) (search field_terms depth 60 fits 20000) refl

fold_low-spread : (x y : ℕ) (ts : List ℕ) → fold_low y (spread x ts) ≡ map (mul (eq_one x y)) ts
fold_low-spread x y [] = refl
fold_low-spread x y (t ∷ ts) = let a = cell x y t in let r = fold_low-spread x y ts in cc

one_cell : extension (1 ∷ []) [] ≡ 1
one_cell = identity [] (search field_terms depth 60 fits 20000) refl

pub weights_extend : (z r : List ℕ) → length z ≡ length r → extension (weights z) r ≡ eq_points z r
weights_extend [] [] h = one_cell
weights_extend [] (y ∷ r) h = absurd (omega arith)
weights_extend (x ∷ z) [] h = absurd (omega arith)
weights_extend (x ∷ z) (y ∷ r) h =
    let l = length-weights (x ∷ z) in
    let e = ap (λ n. 2 ^ n) h in
    extension-fold_low (weights (x ∷ z)) y r (l ∙ e)
    ∙ ap (λ t. extension t r) (fold_low-spread x y (weights z))
    ∙ extension-scale (eq_one x y) (weights z) r
    ∙ ap (mul (eq_one x y)) (weights_extend z r (omega arith))

-- the weights of a point are the table of eq
pub weights_tabulated : (z : List ℕ) → weights z ≡ tabulate (2 ^ length z) (eq z)
weights_tabulated z = entries (2 ^ length z) (eq z) (weights z) (length-weights z) (λ k l. weights_at z k l)
