-- Lists that a function of the place tells.
use Rattle.std.proofs.Common.{◌≡◌, ℕ, zero, suc, ◌+◌, ◌<◌, List, [], ◌∷◌, ◌++◌, map, take, drop, length, get_or, bit_xor, refl, sym, ◌∙◌, ap, arith}
use Rattle.tower_laws.specs.Tower.{mul}
use Rattle.tower_laws.specs.Lists.{sum_all, product_all, sums}
use Rattle.tower_laws.proofs.Rules.{middle_swapped}
use Rattle.tower_laws.proofs.Levels.{field_one}
use Rattle.cube_laws.specs.Sums.{sum_to, product_to, tabulate}
use Rattle.cube_laws.proofs.Weights.{tabulate-same}

pub get_or-tabulate : (n k : ℕ) (f : ℕ → ℕ) → k < n → get_or (tabulate n f) k 0 ≡ f k
get_or-tabulate zero k f h = absurd (omega arith)
get_or-tabulate (suc n) zero f h = refl
get_or-tabulate (suc n) (suc k) f h = get_or-tabulate n k (λ k. f (suc k)) (omega arith)

-- one more place, at the end
pub tabulate-suc : (n : ℕ) (f : ℕ → ℕ) → tabulate (suc n) f ≡ tabulate n f ++ f n ∷ []
tabulate-suc zero f = refl
tabulate-suc (suc n) f = ap (λ l. f 0 ∷ l) (tabulate-suc n (λ k. f (suc k)))

pub tabulate_pushed : (n v : ℕ) (f : ℕ → ℕ) (old new : List ℕ) → old ≡ tabulate n f → new ≡ old ++ v ∷ [] → v ≡ f n → new ≡ tabulate (n + 1) f
tabulate_pushed n v f old new h e q =
    let p : suc n ≡ n + 1 = omega arith in
    e ∙ (λ i. h i ++ q i ∷ []) ∙ sym (tabulate-suc n f) ∙ ap (λ m. tabulate m f) p

-- a list is told by its numbers
pub entries : (n : ℕ) (f : ℕ → ℕ) (xs : List ℕ) → length xs ≡ n → ((k : ℕ) → k < n → get_or xs k 0 ≡ f k) → xs ≡ tabulate n f
entries zero f [] l h = refl
entries (suc n) f [] l h = absurd (omega arith)
entries zero f (x ∷ xs) l h = absurd (omega arith)
entries (suc n) f (x ∷ xs) l h = let p = h 0 (omega arith) in let q = entries n (λ k. f (suc k)) xs (omega arith) (λ k m. h (suc k) (omega arith)) in cc

pub tabulated : (n : ℕ) (xs : List ℕ) → length xs ≡ n → tabulate n (λ k. get_or xs k 0) ≡ xs
tabulated n xs h = sym (entries n (λ k. get_or xs k 0) xs h (λ k l. refl))

pub map-tabulate : (n : ℕ) (f g : ℕ → ℕ) → map f (tabulate n g) ≡ tabulate n (λ k. f (g k))
map-tabulate zero f g = refl
map-tabulate (suc n) f g = ap (λ l. f (g 0) ∷ l) (map-tabulate n f (λ k. g (suc k)))

pub sums-tabulate : (n : ℕ) (f g : ℕ → ℕ) → sums (tabulate n f) (tabulate n g) ≡ tabulate n (λ k. bit_xor (f k) (g k))
sums-tabulate zero f g = refl
sums-tabulate (suc n) f g = ap (λ l. bit_xor (f 0) (g 0) ∷ l) (sums-tabulate n (λ k. f (suc k)) (λ k. g (suc k)))

pub sum_all-tabulate : (n : ℕ) (f : ℕ → ℕ) → sum_all (tabulate n f) ≡ sum_to n f
sum_all-tabulate zero f = refl
sum_all-tabulate (suc n) f = ap (bit_xor (f 0)) (sum_all-tabulate n (λ k. f (suc k)))

pub product_all-tabulate : (n : ℕ) (f : ℕ → ℕ) → product_all (tabulate n f) ≡ product_to n f
product_all-tabulate zero f = refl
product_all-tabulate (suc n) f = ap (mul (f 0)) (product_all-tabulate n (λ k. f (suc k)))

pub product_all-pairs : (n : ℕ) (f g : ℕ → ℕ) → product_all (tabulate n (λ k. mul (f k) (g k))) ≡ mul (product_all (tabulate n f)) (product_all (tabulate n g))
product_all-pairs zero f g = sym (field_one 1)
product_all-pairs (suc n) f g = ap (mul (mul (f 0) (g 0))) (product_all-pairs n (λ k. f (suc k)) (λ k. g (suc k))) ∙ middle_swapped (f 0) (g 0) _ _

pub take-tabulate : (m n : ℕ) (f : ℕ → ℕ) → take m (tabulate (m + n) f) ≡ tabulate m f
take-tabulate zero n f = refl
take-tabulate (suc m) n f = let e : suc m + n ≡ suc (m + n) = omega arith in ap (λ k. take (suc m) (tabulate k f)) e ∙ ap (λ l. f 0 ∷ l) (take-tabulate m n (λ p. f (suc p)))

pub drop-tabulate : (m n : ℕ) (f : ℕ → ℕ) → drop m (tabulate (m + n) f) ≡ tabulate n (λ p. f (m + p))
drop-tabulate zero n f = let e : 0 + n ≡ n = omega arith in ap (λ k. tabulate k f) e ∙ tabulate-same n f (λ p. f (0 + p)) (λ p l. let z : p ≡ 0 + p = omega arith in ap f z)
drop-tabulate (suc m) n f =
    let e : suc m + n ≡ suc (m + n) = omega arith in
    ap (λ k. drop (suc m) (tabulate k f)) e ∙ drop-tabulate m n (λ p. f (suc p)) ∙ tabulate-same n (λ p. f (suc (m + p))) (λ p. f (suc m + p)) (λ p l. let z : suc (m + p) ≡ suc m + p = omega arith in ap f z)
