-- Extensions are linear in the table.
use Rattle.std.proofs.Common.{◌≡◌, ℕ, zero, suc, ◌+◌, ◌*◌, ◌^◌, ◌<◌, List, [], ◌∷◌, map, length, bit_xor, refl, sym, ◌∙◌, ap, arith}
use Rattle.tower_laws.specs.Tower.{mul}
use Rattle.tower_laws.specs.Lists.{sums}
use Rattle.tower_laws.proofs.Field.{identity, field_terms}
use Rattle.cube_laws.specs.Sums.{tabulate}
use Rattle.cube_laws.specs.Extension.{weights, extension, fold_low}
use Rattle.cube_laws.proofs.Weights.{by_weights_is, extension-fold_low, length-tabulate, tabulate-same}
use Rattle.cube_laws.proofs.Dots.{dot-scale, dot-sums, dot-zeros}

pub extension-scale : (c : ℕ) (table z : List ℕ) → extension (map (mul c) table) z ≡ mul c (extension table z)
extension-scale c table z = sym (by_weights_is (map (mul c) table) z) ∙ dot-scale c table (weights z) ∙ ap (mul c) (by_weights_is table z)

pub extension-sums : (f g z : List ℕ) → extension (sums f g) z ≡ bit_xor (extension f z) (extension g z)
extension-sums f g z = sym (by_weights_is (sums f g) z) ∙ dot-sums f g (weights z) ∙ (λ i. bit_xor (by_weights_is f z i) (by_weights_is g z i))

pub extension-zeros : (n : ℕ) (z : List ℕ) → extension (tabulate n (λ p. 0)) z ≡ 0
extension-zeros n z = sym (by_weights_is (tabulate n (λ p. 0)) z) ∙ dot-zeros n (weights z)

-- tables that agree at each place have one extension
pub extension-same : (n : ℕ) (f g : ℕ → ℕ) (z : List ℕ) → ((p : ℕ) → p < n → f p ≡ g p) → extension (tabulate n f) z ≡ extension (tabulate n g) z
extension-same n f g z h = ap (λ t. extension t z) (tabulate-same n f g h)

-- the fold of a table that a function of the place tells
pub fold_low-tabulate : (r n : ℕ) (f : ℕ → ℕ) → fold_low r (tabulate (2 * n) f) ≡ tabulate n (λ u. bit_xor (f (2 * u)) (mul r (bit_xor (f (2 * u)) (f (2 * u + 1)))))
fold_low-tabulate r zero f = refl
fold_low-tabulate r (suc n) f =
    let e : 2 * suc n ≡ suc (suc (2 * n)) = omega arith in
    ap (λ m. fold_low r (tabulate m f)) e
    ∙ ap (λ l. bit_xor (f 0) (mul r (bit_xor (f 0) (f 1))) ∷ l)
    (fold_low-tabulate r n (λ u. f (suc (suc u)))
    ∙ tabulate-same n _ _ (λ u l.
    let a : suc (suc (2 * u)) ≡ 2 * suc u = omega arith in
    let b : suc (suc (2 * u + 1)) ≡ 2 * suc u + 1 = omega arith in
    (λ i. bit_xor (f (a i)) (mul r (bit_xor (f (a i)) (f (b i)))))))

one_cell : (c : ℕ) → extension (c ∷ []) [] ≡ c
one_cell c = identity (c ∷ []) (search field_terms depth 60 fits 20000) refl

flat : (r c : ℕ) → bit_xor c (mul r (bit_xor c c)) ≡ c
flat r c = identity (r ∷ c ∷ []) (search field_terms depth 60 fits 20000) refl

pub fold_low-constant : (r n c : ℕ) → fold_low r (tabulate (2 * n) (λ p. c)) ≡ tabulate n (λ p. c)
fold_low-constant r n c = fold_low-tabulate r n (λ p. c) ∙ tabulate-same n _ (λ p. c) (λ p l. flat r c)

pub extension-constant : (c : ℕ) (z : List ℕ) → extension (tabulate (2 ^ length z) (λ p. c)) z ≡ c
extension-constant c [] = one_cell c
extension-constant c (x ∷ z) =
    let q : 2 ^ suc (length z) ≡ 2 * 2 ^ length z = omega arith in
    extension-fold_low (tabulate (2 ^ suc (length z)) (λ p. c)) x z (length-tabulate (2 ^ suc (length z)) (λ p. c))
    ∙ ap (λ t. extension t z) (ap (λ n. fold_low x (tabulate n (λ p. c))) q ∙ fold_low-constant x (2 ^ length z) c)
    ∙ extension-constant c z
