-- A member taken out of a list, and products over equal multisets.
use Rattle.std.proofs.Common.{◌≡◌, ℕ, suc, ◌<◌, List, [], ◌∷◌, length, Bool, true, false, cond, eqb, refl, sym, ◌∙◌, ap, arith}
use Rattle.std.proofs.lemmas.Bool.{eqb-true, eq-eqb}
use Rattle.tower_laws.specs.Tower.{mul}
use Rattle.tower_laws.proofs.Field.{identity, field_terms}
use Rattle.counting_laws.specs.Multiset.{count, Same, same_tuple, product_by}

-- a test that tells equality
pub record Tells {X : Type 0} (e : X → X → Bool) : Type 0 where
  pub same : (x y : X) → e x y ≡ true → x ≡ y
  pub at : (x : X) → e x x ≡ true

pub numbers : Tells eqb
numbers = record { same = eqb-true; at = λ x. eq-eqb x x refl }

same_tuples : (x y : List ℕ) → same_tuple x y ≡ true → x ≡ y
same_tuples [] [] h = refl
same_tuples [] (b ∷ y) h = cc
same_tuples (a ∷ x) [] h = cc
same_tuples (a ∷ x) (b ∷ y) h = go (eqb a b) refl h (same_tuples x y)
  where
    go : (t : Bool) → eqb a b ≡ t → cond t (same_tuple x y) false ≡ true → (same_tuple x y ≡ true → x ≡ y) → a ∷ x ≡ b ∷ y
    go true q r ih = let p = eqb-true a b q in let s = ih r in cc
    go false q r ih = cc

tuple_at : (x : List ℕ) → same_tuple x x ≡ true
tuple_at [] = refl
tuple_at (a ∷ x) = ap (λ t. cond t (same_tuple x x) false) (eq-eqb a a refl) ∙ tuple_at x

pub tuples : Tells same_tuple
tuples = record { same = same_tuples; at = tuple_at }

-- a list with one member taken out
pub record Out {X : Type 0} (e : X → X → Bool) (x : X) (xs : List X) : Type 0 where
  pub rest : List X
  pub counts : (z : X) → count e z xs ≡ count e z (x ∷ rest)
  pub products : (f : X → ℕ) → product_by f xs ≡ mul (f x) (product_by f rest)
  pub size : length xs ≡ suc (length rest)

left : (a b c p : ℕ) → p ≡ mul b c → mul a p ≡ mul b (mul a c)
left a b c p h = ap (mul a) h ∙ identity (a ∷ b ∷ c ∷ []) (search field_terms depth 60 fits 20000) refl

swap_counts : (s t : Bool) (n m : ℕ) → m ≡ cond t (suc n) n → cond s (suc m) m ≡ cond t (suc (cond s (suc n) n)) (cond s (suc n) n)
swap_counts true true n m h = ap suc h
swap_counts true false n m h = ap suc h
swap_counts false true n m h = h
swap_counts false false n m h = h

pub take_out : {X : Type 0} (e : X → X → Bool) → Tells e → (x : X) (xs : List X) → 0 < count e x xs → Out e x xs
take_out e t x [] h = absurd (omega arith)
take_out {X} e t x (y ∷ ys) h = go (e x y) refl h (take_out e t x ys)
  where
    go : (b : Bool) → e x y ≡ b → 0 < cond b (suc (count e x ys)) (count e x ys) → (0 < count e x ys → Out e x ys) → Out e x (y ∷ ys)
    go true q l ih =
        let p = sym (t.same x y q) in
        record {
          rest = ys;
          counts = λ z. ap (λ w. count e z (w ∷ ys)) p;
          products = λ f. ap (λ w. mul (f w) (product_by f ys)) p;
          size = refl;
        }
    go false q l ih =
        let r = ih l in
        record {
          rest = y ∷ r.rest;
          counts = λ z. swap_counts (e z y) (e z x) (count e z r.rest) (count e z ys) (r.counts z);
          products = λ f. left (f y) (f x) (product_by f r.rest) (product_by f ys) (r.products f);
          size = ap suc r.size;
        }

unsuc : (b : Bool) (m n : ℕ) → cond b (suc m) m ≡ cond b (suc n) n → m ≡ n
unsuc true m n h = omega arith
unsuc false m n h = h

-- what is left stays the same, and what was the same comes from it
pub same_rest : {X : Type 0} (e : X → X → Bool) (x : X) (xs ys zs : List X) → ((z : X) → count e z ys ≡ count e z (x ∷ zs)) → Same e (x ∷ xs) ys → Same e xs zs
same_rest e x xs ys zs c h z = unsuc (e z x) (count e z xs) (count e z zs) (h z ∙ c z)

pub same_with : {X : Type 0} (e : X → X → Bool) (x : X) (xs ys zs : List X) → ((z : X) → count e z ys ≡ count e z (x ∷ zs)) → Same e xs zs → Same e (x ∷ xs) ys
same_with e x xs ys zs c h z = ap (λ n. cond (e z x) (suc n) n) (h z) ∙ sym (c z)

count_head : {X : Type 0} (e : X → X → Bool) → Tells e → (x : X) (xs : List X) → 0 < count e x (x ∷ xs)
count_head e t x xs = let p : count e x (x ∷ xs) ≡ suc (count e x xs) = ap (λ b. cond b (suc (count e x xs)) (count e x xs)) (t.at x) in omega arith

-- the product over equal multisets is one
pub same_products : {X : Type 0} (e : X → X → Bool) → Tells e → (f : X → ℕ) (xs ys : List X) → Same e xs ys → product_by f xs ≡ product_by f ys
same_products e t f [] [] h = refl
same_products e t f [] (y ∷ ys) h = let p = count_head e t y ys in let q = h y in absurd (omega arith)
same_products e t f (x ∷ xs) ys h =
    let p = count_head e t x xs in
    let q = h x in
    let o = take_out e t x ys (omega arith) in
    ap (mul (f x)) (same_products e t f xs o.rest (same_rest e x xs ys o.rest o.counts h)) ∙ sym (o.products f)
