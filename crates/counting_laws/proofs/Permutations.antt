-- Other forms of equal multisets.
use Rattle.std.proofs.Common.{◌≡◌, ℕ, suc, ◌+◌, ◌<◌, ◌≤◌, List, [], ◌∷◌, ◌++◌, Bool, true, false, cond, eqb, ◌&&◌, ◌⊎◌, inl, inr, refl, sym, ◌∙◌, ap, subst, arith}
use Rattle.std.specs.List.{count_by}
use Rattle.std.specs.List.Sorted.{IsPermutation}
use Rattle.std.proofs.lemmas.List.Sums.{sum_by-cons}
use Rattle.std.proofs.lemmas.List.Sorted.{IsPermutation-refl, IsPermutation-cons, IsPermutation-trans, IsPermutation-sym, IsPermutation-middle, sum_by-IsPermutation}
use Rattle.std.proofs.lemmas.Bool.{eqb-true, eq-eqb, and_parts, and_from, cases_lt}
use Rattle.counting_laws.specs.Multiset.{count, Same}
use Rattle.counting_laws.proofs.Removal.{Tells, same_rest}

-- the count by std's word
pub count-count_by : {X : Type 0} (e : X → X → Bool) (x : X) (xs : List X) → count e x xs ≡ count_by (e x) xs
count-count_by e x [] = refl
count-count_by e x (y ∷ ys) = step (e x y) (count e x ys) ∙ ap (λ n. cond (e x y) 1 0 + n) (count-count_by e x ys) ∙ sym (sum_by-cons (λ z. cond (e x z) 1 0) y ys)
  where
    step : (b : Bool) (n : ℕ) → cond b (suc n) n ≡ cond b 1 0 + n
    step true n = omega arith
    step false n = omega arith

-- a list in another order has the same counts
pub same_from_permutation : {X : Type 0} (e : X → X → Bool) (xs ys : List X) → IsPermutation xs ys → Same e xs ys
same_from_permutation e xs ys h x = count-count_by e x xs ∙ sym (sum_by-IsPermutation (λ z. cond (e x z) 1 0) xs ys h) ∙ sym (count-count_by e x ys)

-- a test
abbrev pub counts_agree : {X : Type 0} → (X → X → Bool) → List X → List X → List X → Bool
counts_agree e [] xs ys = true
counts_agree e (z ∷ zs) xs ys = eqb (count e z xs) (count e z ys) && counts_agree e zs xs ys

abbrev pub same_test : {X : Type 0} → (X → X → Bool) → List X → List X → Bool
same_test e xs ys = counts_agree e (xs ++ ys) xs ys

one_cross : {X : Type 0} (e : X → X → Bool) (zs xs ys : List X) (z : X) → Tells e → counts_agree e zs xs ys ≡ true → 0 < count e z zs → count e z xs ≡ count e z ys
one_cross e [] xs ys z t h l = absurd (omega arith)
one_cross {X} e (y ∷ zs) xs ys z t h l = let b = and_parts (eqb (count e y xs) (count e y ys)) (counts_agree e zs xs ys) h in go (e z y) refl l b.0 (one_cross e zs xs ys z t b.1)
  where
    go : (b : Bool) → e z y ≡ b → 0 < cond b (suc (count e z zs)) (count e z zs) → eqb (count e y xs) (count e y ys) ≡ true → (0 < count e z zs → count e z xs ≡ count e z ys) → count e z xs ≡ count e z ys
    go true q k r ih = let p = t.same z y q in subst (λ w. count e w xs ≡ count e w ys) (sym p) (eqb-true (count e y xs) (count e y ys) r)
    go false q k r ih = ih k

count-append : {X : Type 0} (e : X → X → Bool) (z : X) (xs ys : List X) → count e z (xs ++ ys) ≡ count e z xs + count e z ys
count-append e z [] ys = omega arith
count-append e z (x ∷ xs) ys = go (e z x) (count-append e z xs ys)
  where
    go : (b : Bool) → count e z (xs ++ ys) ≡ count e z xs + count e z ys → cond b (suc (count e z (xs ++ ys))) (count e z (xs ++ ys)) ≡ cond b (suc (count e z xs)) (count e z xs) + count e z ys
    go true h = omega arith
    go false h = h

-- the test tells equality of multisets
pub same_from_test : {X : Type 0} (e : X → X → Bool) → Tells e → (xs ys : List X) → same_test e xs ys ≡ true → Same e xs ys
same_from_test e t xs ys h z = go (cases_lt 0 (count e z (xs ++ ys)))
  where
    go : (0 < count e z (xs ++ ys)) ⊎ (count e z (xs ++ ys) ≤ 0) → count e z xs ≡ count e z ys
    go (inl l) = one_cross e (xs ++ ys) xs ys z t h l
    go (inr l) = let p = count-append e z xs ys in omega arith

pub test_from_same : {X : Type 0} (e : X → X → Bool) (xs ys : List X) → Same e xs ys → same_test e xs ys ≡ true
test_from_same {X} e xs ys h = all (xs ++ ys)
  where
    all : (zs : List X) → counts_agree e zs xs ys ≡ true
    all [] = refl
    all (z ∷ zs) = and_from (eqb (count e z xs) (count e z ys)) (counts_agree e zs xs ys) (eq-eqb (count e z xs) (count e z ys) (h z)) (all zs)

-- taking a member out is a move of it to the front
pub record Front {X : Type 0} (e : X → X → Bool) (x : X) (xs : List X) : Type 0 where
  pub rest : List X
  pub moved : IsPermutation xs (x ∷ rest)

pub to_front : {X : Type 0} (e : X → X → Bool) → Tells e → (x : X) (xs : List X) → 0 < count e x xs → Front e x xs
to_front e t x [] h = absurd (omega arith)
to_front {X} e t x (y ∷ ys) h = go (e x y) refl h (to_front e t x ys)
  where
    go : (b : Bool) → e x y ≡ b → 0 < cond b (suc (count e x ys)) (count e x ys) → (0 < count e x ys → Front e x ys) → Front e x (y ∷ ys)
    go true q l ih = record { rest = ys; moved = subst (λ w. IsPermutation (y ∷ ys) (w ∷ ys)) (sym (t.same x y q)) (IsPermutation-refl (y ∷ ys)) }
    go false q l ih =
        let r = ih l in
        record {
          rest = y ∷ r.rest;
          moved = IsPermutation-trans (y ∷ ys) (y ∷ x ∷ r.rest) (x ∷ y ∷ r.rest) (IsPermutation-cons y ys (x ∷ r.rest) r.moved) (IsPermutation-middle (y ∷ []) x r.rest);
        }

head_counts : {X : Type 0} (e : X → X → Bool) → Tells e → (x : X) (xs : List X) → 0 < count e x (x ∷ xs)
head_counts e t x xs = let p : count e x (x ∷ xs) ≡ suc (count e x xs) = ap (λ b. cond b (suc (count e x xs)) (count e x xs)) (t.at x) in omega arith

pub permutation_from_same : {X : Type 0} (e : X → X → Bool) → Tells e → (xs ys : List X) → Same e xs ys → IsPermutation xs ys
permutation_from_same e t [] [] h = IsPermutation-refl []
permutation_from_same e t [] (y ∷ ys) h = let p = head_counts e t y ys in let q = h y in absurd (omega arith)
permutation_from_same e t (x ∷ xs) ys h =
    let p = head_counts e t x xs in
    let q = h x in
    let o = to_front e t x ys (omega arith) in
    let r = permutation_from_same e t xs o.rest (same_rest e x xs ys o.rest (same_from_permutation e ys (x ∷ o.rest) o.moved) h) in
    IsPermutation-trans (x ∷ xs) (x ∷ o.rest) ys (IsPermutation-cons x xs o.rest r) (IsPermutation-sym ys (x ∷ o.rest) o.moved)
