-- Collapsed tuples of unequal multisets.
use Rattle.std.proofs.Common.{◌≡◌, ℕ, zero, suc, ◌+◌, ◌*◌, ◌-◌, ◌≤◌, ◌<◌, List, [], ◌∷◌, length, Bool, true, false, not, cond, eqb, ◌⊎◌, inl, inr, refl, sym, ◌∙◌, ap, subst, map, arith}
use Rattle.std.proofs.lemmas.Bool.{eqb-true, eq-eqb, cases_eq, cases_Bool, both_ways, not-true}
use Rattle.std.proofs.Math.Nat.{add-mul}
use Rattle.poly_laws.specs.Polynomial.{horner}
use Rattle.std.specs.List.{AllByRecursion}
use Rattle.counting_laws.specs.Counting.{Distinct, AtMost}
use Rattle.counting_laws.specs.Multiset.{count, Same, same_tuple}
use Rattle.counting_laws.proofs.Bounds.{at_most_split, at_most_weaker, at_most_from, at_most_none}
use Rattle.counting_laws.proofs.Removal.{tuples}
use Rattle.poly_laws.proofs.Products.{zero_difference, equal_coefficients}

-- two tuples of w + 1 numbers collapse to one at no more than w places
collide : (w : ℕ) (t u : List ℕ) → length t ≡ suc w → length u ≡ suc w → (t ≡ u → ⊥) → AtMost w (λ a. horner t a ≡ horner u a)
collide w t u p q apart =
    at_most_from (λ a. horner t a ≡ horner u a) w
    (λ gs d h l. apart (equal_coefficients t u (p ∙ sym q) (zero_difference t u gs d h (omega arith))))

-- whether t collapses to one with another tuple of a list
abbrev hits : List ℕ → List (List ℕ) → ℕ → Bool
hits t [] a = false
hits t (u ∷ us) a = cond (same_tuple t u) (hits t us a) (cond (eqb (horner t a) (horner u a)) true (hits t us a))

hits_step : (w n : ℕ) (t u : List ℕ) (us : List (List ℕ)) → length t ≡ suc w → length u ≡ suc w → AtMost (n * w) (λ a. hits t us a ≡ true) → AtMost (suc n * w) (λ a. hits t (u ∷ us) a ≡ true)
hits_step w n t u us p q ih = go (same_tuple t u) refl
  where
    more : n * w ≤ suc n * w
    more = grind arith

    both : w + n * w ≤ suc n * w
    both = grind arith

    second : (a : ℕ) (b : Bool) → cond b true (hits t us a) ≡ true → not b ≡ true → hits t us a ≡ true
    second a true h k = cc
    second a false h k = h

    go : (s : Bool) → same_tuple t u ≡ s → AtMost (suc n * w) (λ a. cond s (hits t us a) (cond (eqb (horner t a) (horner u a)) true (hits t us a)) ≡ true)
    go true e = at_most_weaker (λ a. hits t us a ≡ true) (λ a. hits t us a ≡ true) (n * w) (suc n * w) (λ x r. r) more ih
    go false e =
        let P = λ (a : ℕ). cond (eqb (horner t a) (horner u a)) true (hits t us a) ≡ true in
        at_most_weaker P P (w + n * w) (suc n * w) (λ x r. r) both
        (at_most_split (λ a. eqb (horner t a) (horner u a)) P w (n * w)
        (at_most_weaker (λ a. P a × (eqb (horner t a) (horner u a) ≡ true)) (λ a. horner t a ≡ horner u a) w w (λ a r. eqb-true _ _ r.1) (omega arith)
        (collide w t u p q (λ (s : t ≡ u). both_ways _ e (sym (ap (same_tuple t) s) ∙ tuples.at t))))
        (at_most_weaker (λ a. P a × (not (eqb (horner t a) (horner u a)) ≡ true)) (λ a. hits t us a ≡ true) (n * w) (n * w) (λ a r. second a (eqb (horner t a) (horner u a)) r.0 r.1) (omega arith) ih))

at_most_hits : (w : ℕ) (t : List ℕ) (us : List (List ℕ)) → length t ≡ suc w → AllByRecursion (λ u. length u ≡ suc w) us → AtMost (length us * w) (λ a. hits t us a ≡ true)
at_most_hits w t [] p h = at_most_none (λ a. hits t [] a ≡ true) (0 * w) (λ a (e : false ≡ true). cc)
at_most_hits w t (u ∷ us) p h = hits_step w (length us) t u us p h.0 (at_most_hits w t us p h.1)

-- where no other tuple is hit, the count stays
same_count : (t : List ℕ) (us : List (List ℕ)) (a : ℕ) → hits t us a ≡ false → count eqb (horner t a) (map (λ u. horner u a) us) ≡ count same_tuple t us
same_count t [] a h = refl
same_count t (u ∷ us) a h = go (same_tuple t u) refl h (same_count t us a)
  where
    other : (b : Bool) → cond b true (hits t us a) ≡ false → (hits t us a ≡ false → count eqb (horner t a) (map (λ u. horner u a) us) ≡ count same_tuple t us)
        → cond b (suc (count eqb (horner t a) (map (λ u. horner u a) us))) (count eqb (horner t a) (map (λ u. horner u a) us)) ≡ count same_tuple t us
    other true k ih = cc
    other false k ih = ih k

    go : (s : Bool) → same_tuple t u ≡ s → cond s (hits t us a) (cond (eqb (horner t a) (horner u a)) true (hits t us a)) ≡ false
        → (hits t us a ≡ false → count eqb (horner t a) (map (λ u. horner u a) us) ≡ count same_tuple t us)
        → cond (eqb (horner t a) (horner u a)) (suc (count eqb (horner t a) (map (λ u. horner u a) us))) (count eqb (horner t a) (map (λ u. horner u a) us)) ≡ cond s (suc (count same_tuple t us)) (count same_tuple t us)
    go true e k ih =
        ap (λ b. cond b (suc (count eqb (horner t a) (map (λ u. horner u a) us))) (count eqb (horner t a) (map (λ u. horner u a) us))) (eq-eqb (horner t a) (horner u a) (ap (λ v. horner v a) (tuples.same t u e)))
        ∙ ap suc (ih k)
    go false e k ih = other (eqb (horner t a) (horner u a)) k ih

abbrev pub SameAt : List (List ℕ) → List (List ℕ) → ℕ → Type 0
SameAt ts us a = Same eqb (map (λ t. horner t a) ts) (map (λ t. horner t a) us)

-- a tuple of unequal count
alpha_at : (w : ℕ) (t : List ℕ) (ts us : List (List ℕ)) → length t ≡ suc w → AllByRecursion (λ u. length u ≡ suc w) ts → AllByRecursion (λ u. length u ≡ suc w) us
    → (count same_tuple t ts ≡ count same_tuple t us → ⊥) → AtMost (length ts * w + length us * w) (SameAt ts us)
alpha_at w t ts us p h k apart =
    at_most_split (hits t ts) (SameAt ts us) (length ts * w) (length us * w)
    (at_most_weaker (λ a. SameAt ts us a × (hits t ts a ≡ true)) (λ a. hits t ts a ≡ true) (length ts * w) (length ts * w) (λ a r. r.1) (omega arith) (at_most_hits w t ts p h))
    (at_most_weaker (λ a. SameAt ts us a × (not (hits t ts a) ≡ true)) (λ a. hits t us a ≡ true) (length us * w) (length us * w) (λ a r. must a r (cases_Bool (hits t us a))) (omega arith) (at_most_hits w t us p k))
  where
    must : (a : ℕ) → SameAt ts us a × (not (hits t ts a) ≡ true) → (hits t us a ≡ true) ⊎ (hits t us a ≡ false) → hits t us a ≡ true
    must a r (inl e) = e
    must a r (inr e) = absurd (apart (sym (same_count t ts a (not-true (hits t ts a) r.1)) ∙ r.0 (horner t a) ∙ same_count t us a e))

-- a tuple of another width stands in no list
not_there : (w : ℕ) (t : List ℕ) (us : List (List ℕ)) → (length t ≡ suc w → ⊥) → AllByRecursion (λ u. length u ≡ suc w) us → count same_tuple t us ≡ 0
not_there w t [] apart h = refl
not_there w t (u ∷ us) apart h = go (same_tuple t u) refl (not_there w t us apart h.1)
  where
    go : (b : Bool) → same_tuple t u ≡ b → count same_tuple t us ≡ 0 → cond b (suc (count same_tuple t us)) (count same_tuple t us) ≡ 0
    go true e ih = absurd (apart (ap length (tuples.same t u e) ∙ h.0))
    go false e ih = ih

-- of unequal multisets of tuples of one width the collapsed multisets are equal at no more than N (w - 1) places
pub collapses_apart : (w : ℕ) (ts us : List (List ℕ)) → 1 ≤ w → AllByRecursion (λ t. length t ≡ w) ts → AllByRecursion (λ t. length t ≡ w) us → (Same same_tuple ts us → ⊥)
    → AtMost ((length ts + length us) * (w - 1)) (λ a. Same eqb (map (λ t. horner t a) ts) (map (λ t. horner t a) us))
collapses_apart zero ts us l h k apart = absurd (omega arith)
collapses_apart (suc w) ts us l h k apart =
    let e : w ≡ suc w - 1 = omega arith in
    subst (λ n. AtMost ((length ts + length us) * n) (SameAt ts us)) e
    (at_most_from (SameAt ts us) ((length ts + length us) * w)
    (λ gs d e m. apart (λ t. equal t gs d e m (cases_eq (length t) (suc w)) (cases_eq (count same_tuple t ts) (count same_tuple t us)))))
  where
    equal : (t : List ℕ) (gs : List ℕ) → Distinct gs → AllByRecursion (SameAt ts us) gs → (length ts + length us) * w < length gs
        → (length t ≡ suc w) ⊎ (length t ≡ suc w → ⊥) → (count same_tuple t ts ≡ count same_tuple t us) ⊎ (count same_tuple t ts ≡ count same_tuple t us → ⊥) → count same_tuple t ts ≡ count same_tuple t us
    equal t gs d e m c (inl q) = q
    equal t gs d e m (inr c) (inr q) = not_there w t ts c h ∙ sym (not_there w t us c k)
    equal t gs d e m (inl c) (inr q) =
        let r = alpha_at w t ts us c h k q gs d e in
        let s = add-mul (length ts) (length us) w in
        absurd (omega arith)
