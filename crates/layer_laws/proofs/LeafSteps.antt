-- Leaves as forms, and their product over a padded table.
use Rattle.std.proofs.Common.{◌≡◌, ℕ, zero, suc, ◌+◌, ◌-◌, ◌<◌, ◌≤◌, ltb, eqb, Bool, true, false, cond, List, [], ◌∷◌, ◌++◌, map, drop, length, slice_index, bit_xor, refl, sym, ◌∙◌, ap, arith}
use Rattle.std.specs.List.{filter}
use Rattle.std.proofs.Math.Seq.{drop-cons}
use Rattle.std.proofs.lemmas.List.{append-nil, drop_all}
use Rattle.std.proofs.lemmas.List.Elements.{filter-append}
use Rattle.std.proofs.lemmas.Bool.{ltb-true}
use Rattle.std.proofs.lemmas.Bool.Decides.{nat_tests}
use Rattle.tower_laws.specs.Tower.{mul}
use Rattle.tower_laws.specs.Lists.{product_all}
use Rattle.tower_laws.proofs.Field.{identity, field_terms}
use Rattle.counting_laws.specs.Multiset.{product_by}
use Rattle.poly_laws.specs.Polynomial.{horner}
use Rattle.cube_laws.specs.Sums.{tabulate}
use Rattle.cube_laws.specs.Form.{value, degree}
use Rattle.cube_laws.proofs.Weights.{tabulate-add}
use Rattle.multiset_laws.specs.Fingerprint.{fingerprint, leaf}
use Rattle.multiset_laws.proofs.Leaves.{leaf_product, product_by-map}
use Rattle.layer_laws.specs.LeafForm.{collapse_form, leaf_form}

-- ---- forms
collapsed : (a k w : ℕ) (xs : List ℕ) → length xs ≡ k + w → value (collapse_form a k w) xs ≡ horner (drop k xs) a
collapsed a k zero xs h = sym (ap (λ l. horner l a) (drop_all k xs (omega arith)))
collapsed a k (suc w) xs h =
    let d = drop-cons xs k 0 (omega arith) in
    ap (λ v. bit_xor (slice_index xs k) (mul a v)) (collapsed a (suc k) w xs (omega arith)) ∙ sym (ap (λ l. horner l a) d)

pub leaf_is : (a g w s selector : ℕ) (tuple : List ℕ) → length tuple ≡ w → value (leaf_form a g w) (s ∷ selector ∷ tuple) ≡ leaf s selector (fingerprint a g tuple)
leaf_is a g w s selector tuple h = ap (λ v. bit_xor (mul (mul s selector) (bit_xor (bit_xor g v) 1)) 1) (collapsed a 2 w (s ∷ selector ∷ tuple) (omega arith))

collapse_degree : (a k w : ℕ) → degree (collapse_form a k w) ≤ 1
collapse_degree a k zero = omega arith
collapse_degree a k (suc w) = let h = collapse_degree a (suc k) w in omega arith

pub leaf_degree : (a g w : ℕ) → degree (leaf_form a g w) ≤ 3
leaf_degree a g w = let h = collapse_degree a 2 w in omega arith

-- ---- all rows
product_rows : (n : ℕ) (f : ℕ → ℕ) (g : ℕ → ℕ) → product_all (tabulate n (λ y. f (g y))) ≡ product_by f (tabulate n g)
product_rows zero f g = refl
product_rows (suc n) f g = ap (mul (f (g 0))) (product_rows n f (λ y. g (suc y)))

filter-same : (p q : ℕ → Bool) (n : ℕ) (f : ℕ → ℕ) → ((k : ℕ) → k < n → p (f k) ≡ q (f k)) → filter p (tabulate n f) ≡ filter q (tabulate n f)
filter-same p q zero f h = refl
filter-same p q (suc n) f h =
    let e = h 0 (omega arith) in
    let r = filter-same p q n (λ k. f (suc k)) (λ k l. h (suc k) (omega arith)) in
    (λ i. cond (e i) (f 0 ∷ r i) (r i))

filter_none : (p : ℕ → Bool) (n : ℕ) (f : ℕ → ℕ) → ((k : ℕ) → p (f k) ≡ false) → filter p (tabulate n f) ≡ []
filter_none p zero f h = refl
filter_none p (suc n) f h = ap (λ b. cond b (f 0 ∷ filter p (tabulate n (λ k. f (suc k)))) (filter p (tabulate n (λ k. f (suc k))))) (h 0) ∙ filter_none p n (λ k. f (suc k)) (λ k. h (suc k))

-- of n rows those that are there and pass a test are those of m rows that pass it
rows_there : (m n : ℕ) (s : ℕ → Bool) → m ≤ n → filter (λ y. cond (ltb y m) (s y) false) (tabulate n (λ y. y)) ≡ filter s (tabulate m (λ y. y))
rows_there m n s h =
    let e : n ≡ m + (n - m) = omega arith in
    ap (λ k. filter (λ y. cond (ltb y m) (s y) false) (tabulate k (λ y. y))) e
    ∙ ap (filter (λ y. cond (ltb y m) (s y) false)) (tabulate-add m (n - m) (λ y. y))
    ∙ filter-append (λ y. cond (ltb y m) (s y) false) (tabulate m (λ y. y)) (tabulate (n - m) (λ y. m + y))
    ∙ ap (λ l. filter (λ y. cond (ltb y m) (s y) false) (tabulate m (λ y. y)) ++ l) (filter_none (λ y. cond (ltb y m) (s y) false) (n - m) (λ y. m + y) (λ k. ap (λ b. cond b (s (m + k)) false) (late k)))
    ∙ append-nil (filter (λ y. cond (ltb y m) (s y) false) (tabulate m (λ y. y)))
    ∙ filter-same (λ y. cond (ltb y m) (s y) false) s m (λ y. y) (λ k l. ap (λ b. cond b (s k) false) (early k l))
  where
    late : (k : ℕ) → ltb (m + k) m ≡ false
    late k = grind (arith, nat_tests)

    early : (k : ℕ) → k < m → ltb k m ≡ true
    early k l = grind (arith, nat_tests)

no_factor : (s : ℕ) → mul 0 s ≡ 0
no_factor s = identity (s ∷ []) (search field_terms depth 60 fits 20000) refl

factor : (y m s : ℕ) → (y < m → s < 2) → mul (cond (ltb y m) 1 0) s ≡ cond (cond (ltb y m) (eqb s 1) false) 1 0
factor y m s h = go (ltb y m) refl
  where
    bit_case : (s : ℕ) → s < 2 → mul 1 s ≡ cond (eqb s 1) 1 0
    bit_case zero l = identity [] (search field_terms depth 60 fits 20000) refl
    bit_case (suc zero) l = identity [] (search field_terms depth 60 fits 20000) refl
    bit_case (suc (suc s)) l = absurd (omega arith)

    go : (t : Bool) → ltb y m ≡ t → mul (cond t 1 0) s ≡ cond (cond t (eqb s 1) false) 1 0
    go true e = bit_case s (h (ltb-true y m e))
    go false e = no_factor s

pub flush_product : (n m a g : ℕ) (selector : ℕ → ℕ) (tuple : ℕ → List ℕ) → m ≤ n → ((y : ℕ) → y < m → selector y < 2)
    → product_all (tabulate n (λ y. leaf (cond (ltb y m) 1 0) (selector y) (fingerprint a g (tuple y)))) ≡ product_by (fingerprint a g) (map tuple (filter (λ y. eqb (selector y) 1) (tabulate m (λ y. y))))
flush_product n m a g selector tuple l h =
    product_rows n (λ y. leaf (cond (ltb y m) 1 0) (selector y) (fingerprint a g (tuple y))) (λ y. y)
    ∙ leaf_product (λ y. mul (cond (ltb y m) 1 0) (selector y)) (λ y. fingerprint a g (tuple y)) (λ y. cond (ltb y m) (eqb (selector y) 1) false) (λ y. factor y m (selector y) (h y)) (tabulate n (λ y. y))
    ∙ ap (product_by (λ y. fingerprint a g (tuple y))) (rows_there m n (λ y. eqb (selector y) 1) l)
    ∙ sym (product_by-map (fingerprint a g) tuple (filter (λ y. eqb (selector y) 1) (tabulate m (λ y. y))))
