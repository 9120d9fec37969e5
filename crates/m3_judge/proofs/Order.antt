-- Tuples in order.
use Rattle.std.proofs.Common.{◌≡◌, ℕ, suc, ◌<◌, Bool, true, false, cond, eqb, ltb, List, [], ◌∷◌, Option, Some, None, refl, sym, ◌∙◌, ap, subst, arith}
use Rattle.std.specs.Prelude.{MatchOption}
use Rattle.std.specs.List.{AllByRecursion}
use Rattle.std.proofs.lemmas.Bool.Decides.{nat_tests}
use Rattle.counting_laws.specs.Multiset.{count, same_tuple}
use Rattle.table_shape.specs.Satisfies.{is_below}
use Rattle.m3_judge.specs.Order.{IsAscending, first_difference, IsLeastUnequal, OrdersTellMultisets}

true_false : {X : Type 0} → true ≡ false → X
true_false e = absurd cc

-- ---- the order

-- nothing is below itself
pub not_below_itself : (t : List ℕ) → is_below t t ≡ false
not_below_itself [] = refl
not_below_itself (x ∷ t) = let e : eqb x x ≡ true = grind (arith, nat_tests) in rw e (not_below_itself t)

heads : (x y : ℕ) (xs ys : List ℕ) → is_below (x ∷ xs) (y ∷ ys) ≡ true → eqb x y ≡ false → x < y
heads x y xs ys h e = let l : ltb x y ≡ true = rw e at h in grind (arith, nat_tests)

-- the order is one way
pub one_way : (t u : List ℕ) → is_below t u ≡ true → is_below u t ≡ false
one_way [] [] h = refl
one_way [] (y ∷ u) h = refl
one_way (x ∷ t) [] h = true_false (sym h)
one_way (x ∷ t) (y ∷ u) h = go (eqb x y) refl (one_way t u)
  where
    go : (b : Bool) → eqb x y ≡ b → (is_below t u ≡ true → is_below u t ≡ false) → is_below (y ∷ u) (x ∷ t) ≡ false
    go true e ih =
        let back : eqb y x ≡ true = grind (arith, nat_tests) in
        rw back (ih (rw e at h))
    go false e ih =
        let l = heads x y t u h e in
        let apart : eqb y x ≡ false = grind (arith, nat_tests) in
        let above : ltb y x ≡ false = grind (arith, nat_tests) in
        rw (apart, above) refl

-- what isn't below, one after the other
pub chain : (t u w : List ℕ) → is_below t u ≡ false → is_below u w ≡ false → is_below t w ≡ false
chain t [] [] h k = h
chain [] [] (z ∷ w) h k = true_false k
chain (x ∷ t) [] (z ∷ w) h k = true_false k
chain [] (y ∷ u) w h k = true_false h
chain (x ∷ t) (y ∷ u) [] h k = refl
chain (x ∷ t) (y ∷ u) (z ∷ w) h k = go (eqb x y) (eqb y z) refl refl (chain t u w)
  where
    go : (b c : Bool) → eqb x y ≡ b → eqb y z ≡ c → (is_below t u ≡ false → is_below u w ≡ false → is_below t w ≡ false) → is_below (x ∷ t) (z ∷ w) ≡ false
    go true true e f ih =
        let both : eqb x z ≡ true = grind (arith, nat_tests) in
        rw both (ih (rw e at h) (rw f at k))
    go true false e f ih =
        let past : ltb y z ≡ false = rw f at k in
        let apart : eqb x z ≡ false = grind (arith, nat_tests) in
        let above : ltb x z ≡ false = grind (arith, nat_tests) in
        rw (apart, above) refl
    go false true e f ih =
        let past : ltb x y ≡ false = rw e at h in
        let apart : eqb x z ≡ false = grind (arith, nat_tests) in
        let above : ltb x z ≡ false = grind (arith, nat_tests) in
        rw (apart, above) refl
    go false false e f ih =
        let past : ltb x y ≡ false = rw e at h in
        let further : ltb y z ≡ false = rw f at k in
        let apart : eqb x z ≡ false = grind (arith, nat_tests) in
        let above : ltb x z ≡ false = grind (arith, nat_tests) in
        rw (apart, above) refl

-- two tuples that differ are below one another one way
pub one_is_below : (t u : List ℕ) → same_tuple t u ≡ false → is_below t u ≡ false → is_below u t ≡ true
one_is_below [] [] d h = true_false d
one_is_below [] (y ∷ u) d h = true_false h
one_is_below (x ∷ t) [] d h = refl
one_is_below (x ∷ t) (y ∷ u) d h = go (eqb x y) refl (one_is_below t u)
  where
    go : (b : Bool) → eqb x y ≡ b → (same_tuple t u ≡ false → is_below t u ≡ false → is_below u t ≡ true) → is_below (y ∷ u) (x ∷ t) ≡ true
    go true e ih =
        let back : eqb y x ≡ true = grind (arith, nat_tests) in
        rw back (ih (rw e at d) (rw e at h))
    go false e ih =
        let past : ltb x y ≡ false = rw e at h in
        let apart : eqb y x ≡ false = grind (arith, nat_tests) in
        let under : ltb y x ≡ true = grind (arith, nat_tests) in
        rw (apart, under) refl

-- a tuple below another is another one
pub below_differs : (t u : List ℕ) → is_below t u ≡ true → same_tuple t u ≡ false
below_differs [] [] h = true_false (sym h)
below_differs [] (y ∷ u) h = refl
below_differs (x ∷ t) [] h = refl
below_differs (x ∷ t) (y ∷ u) h = go (eqb x y) refl (below_differs t u)
  where
    go : (b : Bool) → eqb x y ≡ b → (is_below t u ≡ true → same_tuple t u ≡ false) → same_tuple (x ∷ t) (y ∷ u) ≡ false
    go true e ih = rw e (ih (rw e at h))
    go false e ih = rw e refl

pub same_itself : (t : List ℕ) → same_tuple t t ≡ true
same_itself [] = refl
same_itself (x ∷ t) = let e : eqb x x ≡ true = grind (arith, nat_tests) in rw e (same_itself t)

pub same_is : (t u : List ℕ) → same_tuple t u ≡ true → t ≡ u
same_is [] [] h = refl
same_is [] (y ∷ u) h = true_false (sym h)
same_is (x ∷ t) [] h = true_false (sym h)
same_is (x ∷ t) (y ∷ u) h = go (eqb x y) refl (same_is t u)
  where
    go : (b : Bool) → eqb x y ≡ b → (same_tuple t u ≡ true → t ≡ u) → x ∷ t ≡ y ∷ u
    go true e ih = let p : x ≡ y = grind (arith, nat_tests) in λ i. p i ∷ ih (rw e at h) i
    go false e ih = true_false (sym (rw e at h))

-- what is below one tuple, and another isn't
pub below_through : (t u w : List ℕ) → is_below t u ≡ true → is_below w u ≡ false → is_below t w ≡ true
below_through t u w h k = go (is_below t w) refl
  where
    go : (b : Bool) → is_below t w ≡ b → is_below t w ≡ true
    go true e = e
    go false e = true_false (sym h ∙ chain t w u e k)

-- ---- counts in lists in order

-- none of them is this one
absent : (t : List ℕ) (ts : List (List ℕ)) → AllByRecursion (λ u. same_tuple t u ≡ false) ts → count same_tuple t ts ≡ 0
absent t [] all = refl
absent t (u ∷ ts) all = rw (all.0) (absent t ts all.1)

-- a tuple below the first one stands in no list in order
all_above : (t u : List ℕ) (ts : List (List ℕ)) → is_below t u ≡ true → AllByRecursion (λ w. is_below w u ≡ false) ts → AllByRecursion (λ w. same_tuple t w ≡ false) ts
all_above t u [] h all = tt
all_above t u (w ∷ ts) h all = (below_differs t w (below_through t u w h all.0), all_above t u ts h all.1)

pub below_first : (t u : List ℕ) (ts : List (List ℕ)) → is_below t u ≡ true → IsAscending (u ∷ ts) → count same_tuple t (u ∷ ts) ≡ 0
below_first t u ts h up = absent t (u ∷ ts) (below_differs t u h, all_above t u ts h up.0)

-- a tuple stands in a list that it begins
pub first_counts : (t : List ℕ) (ts : List (List ℕ)) → 0 < count same_tuple t (t ∷ ts)
first_counts t ts = let e : count same_tuple t (t ∷ ts) ≡ suc (count same_tuple t ts) = ap (λ b. cond b (suc (count same_tuple t ts)) (count same_tuple t ts)) (same_itself t) in omega arith

-- ---- where lists first differ

abbrev Told : List (List ℕ) → List (List ℕ) → Option (List ℕ) → Type 0
Told ts us o = MatchOption o ((t : List ℕ) → count same_tuple t ts ≡ count same_tuple t us) (IsLeastUnequal ts us)

-- the first member of one list is below all of the other
lesser : (t : List ℕ) (ts us : List (List ℕ)) → IsAscending (t ∷ ts) → ((w : List ℕ) → is_below w t ≡ true → count same_tuple w us ≡ 0) → count same_tuple t us ≡ 0 → IsLeastUnequal (t ∷ ts) us t
lesser t ts us up none absent = record {
  unequal = λ e. let p = first_counts t ts in omega arith;
  below = λ w h. below_first w t ts h up ∙ sym (none w h);
}

turned : (ts us : List (List ℕ)) (t : List ℕ) → IsLeastUnequal us ts t → IsLeastUnequal ts us t
turned ts us t is = record { unequal = λ e. is.unequal (sym e); below = λ w h. sym (is.below w h) }

same_head : (t : List ℕ) (ts us : List (List ℕ)) (o : Option (List ℕ)) → Told ts us o → Told (t ∷ ts) (t ∷ us) o
same_head t ts us None told = λ w. ap (λ n. cond (same_tuple w t) (suc n) n) (told w)
same_head t ts us (Some least) told = record {
  unequal = λ e. told.unequal (counted (same_tuple least t) (count same_tuple least ts) (count same_tuple least us) e);
  below = λ w h. ap (λ n. cond (same_tuple w t) (suc n) n) (told.below w h);
}
  where
    counted : (b : Bool) (m n : ℕ) → cond b (suc m) m ≡ cond b (suc n) n → m ≡ n
    counted true m n e = omega arith
    counted false m n e = e

pub orders_tell_multisets : OrdersTellMultisets
orders_tell_multisets [] [] up vp = λ t. refl
orders_tell_multisets [] (u ∷ us) up vp = turned [] (u ∷ us) u (lesser u us [] vp (λ w h. refl) refl)
orders_tell_multisets (t ∷ ts) [] up vp = lesser t ts [] up (λ w h. refl) refl
orders_tell_multisets (t ∷ ts) (u ∷ us) up vp = go (same_tuple t u) (is_below t u) refl refl (orders_tell_multisets ts us up.1 vp.1)
  where
    go : (b c : Bool) → same_tuple t u ≡ b → is_below t u ≡ c → Told ts us (first_difference ts us) → Told (t ∷ ts) (u ∷ us) (cond b (first_difference ts us) (Some (cond c t u)))
    go true c e f ih = subst (λ w. Told (t ∷ ts) (w ∷ us) (first_difference ts us)) (same_is t u e) (same_head t ts us (first_difference ts us) ih)
    go false true e f ih = lesser t ts (u ∷ us) up (λ w h. below_first w u us (below_through w t u h (one_way t u f)) vp) (below_first t u us f vp)
    go false false e f ih =
        let back = one_is_below t u e f in
        turned (t ∷ ts) (u ∷ us) u (lesser u us (t ∷ ts) vp (λ w h. below_first w t ts (below_through w u t h f) up) (below_first u t ts back up))
