-- Products of the leaves of rows.
use Rattle.std.proofs.Common.{◌≡◌, ℕ, List, [], ◌∷◌, ◌++◌, bit_xor, Bool, true, false, cond, refl, sym, ◌∙◌, ap, map}
use Rattle.std.specs.List.{filter}
use Rattle.tower_laws.specs.Tower.{mul}
use Rattle.poly_laws.specs.Polynomial.{horner}
use Rattle.tower_laws.proofs.Field.{identity, field_terms}
use Rattle.counting_laws.specs.Multiset.{Same, same_tuple, product_by}
use Rattle.counting_laws.proofs.Removal.{tuples, same_products}

not_taken : (v p : ℕ) → mul (bit_xor (mul 0 (bit_xor v 1)) 1) p ≡ p
not_taken v p = identity (v ∷ p ∷ []) (search field_terms depth 60 fits 20000) refl

taken_leaf : (v p : ℕ) → mul (bit_xor (mul 1 (bit_xor v 1)) 1) p ≡ mul v p
taken_leaf v p = identity (v ∷ p ∷ []) (search field_terms depth 60 fits 20000) refl

-- the product of the leaves of rows is that of the fingerprints of the rows that are taken
pub leaf_product : {X : Type 0} (flag v : X → ℕ) (taken : X → Bool) → ((x : X) → flag x ≡ cond (taken x) 1 0) → (xs : List X)
    → product_by (λ x. bit_xor (mul (flag x) (bit_xor (v x) 1)) 1) xs ≡ product_by v (filter taken xs)
leaf_product flag v taken h [] = refl
leaf_product {X} flag v taken h (x ∷ xs) = go (taken x) (h x) (leaf_product flag v taken h xs)
  where
    go : (b : Bool) → flag x ≡ cond b 1 0 → product_by (λ x. bit_xor (mul (flag x) (bit_xor (v x) 1)) 1) xs ≡ product_by v (filter taken xs)
        → mul (bit_xor (mul (flag x) (bit_xor (v x) 1)) 1) (product_by (λ x. bit_xor (mul (flag x) (bit_xor (v x) 1)) 1) xs) ≡ product_by v (cond b (x ∷ filter taken xs) (filter taken xs))
    go true e ih = cc (taken_leaf (v x) (product_by v (filter taken xs)))
    go false e ih = cc (not_taken (v x) (product_by v (filter taken xs)))

append_step : (a b c p : ℕ) → p ≡ mul b c → mul a p ≡ mul (mul a b) c
append_step a b c p h = ap (mul a) h ∙ identity (a ∷ b ∷ c ∷ []) (search field_terms depth 60 fits 20000) refl

one_left : (p : ℕ) → p ≡ mul 1 p
one_left p = identity (p ∷ []) (search field_terms depth 60 fits 20000) refl

pub product_by-append : {X : Type 0} (f : X → ℕ) (xs ys : List X) → product_by f (xs ++ ys) ≡ mul (product_by f xs) (product_by f ys)
product_by-append f [] ys = one_left (product_by f ys)
product_by-append f (x ∷ xs) ys = append_step (f x) (product_by f xs) (product_by f ys) (product_by f (xs ++ ys)) (product_by-append f xs ys)

pub product_by-map : {X Y : Type 0} (f : Y → ℕ) (g : X → Y) (xs : List X) → product_by f (map g xs) ≡ product_by (λ x. f (g x)) xs
product_by-map f g [] = refl
product_by-map f g (x ∷ xs) = ap (mul (f (g x))) (product_by-map f g xs)

-- equal multisets of tuples have equal products of fingerprints at every challenge
pub balanced_products : (ts us : List (List ℕ)) → Same same_tuple ts us → (a g : ℕ) → product_by (λ t. bit_xor g (horner t a)) ts ≡ product_by (λ t. bit_xor g (horner t a)) us
balanced_products ts us h a g = same_products same_tuple tuples (λ t. bit_xor g (horner t a)) ts us h

both_bits : (s t : Bool) → mul (cond s 1 0) (cond t 1 0) ≡ cond (cond s t false) 1 0
both_bits true t = identity (cond t 1 0 ∷ []) (search field_terms depth 60 fits 20000) refl
both_bits false t = identity (cond t 1 0 ∷ []) (search field_terms depth 60 fits 20000) refl

pub leaves_law : (a g : ℕ) (sel step : ℕ → Bool) (tuple : ℕ → List ℕ) (ys : List ℕ)
    → product_by (λ y. bit_xor (mul (mul (cond (step y) 1 0) (cond (sel y) 1 0)) (bit_xor (bit_xor g (horner (tuple y) a)) 1)) 1) ys
    ≡ product_by (λ t. bit_xor g (horner t a)) (map tuple (filter (λ y. cond (step y) (sel y) false) ys))
leaves_law a g sel step tuple ys =
    leaf_product (λ y. mul (cond (step y) 1 0) (cond (sel y) 1 0)) (λ y. bit_xor g (horner (tuple y) a)) (λ y. cond (step y) (sel y) false) (λ y. both_bits (step y) (sel y)) ys
    ∙ sym (product_by-map (λ t. bit_xor g (horner t a)) tuple (filter (λ y. cond (step y) (sel y) false) ys))
