-- Bounds on how many have a property.
use Rattle.std.proofs.Common.{◌≡◌, ℕ, suc, ◌+◌, ◌≤◌, ◌<◌, List, [], ◌∷◌, length, Bool, true, false, not, cond, ◌⊎◌, inl, inr, refl, sym, ◌∙◌, arith}
use Rattle.std.specs.List.{filter}
use Rattle.std.proofs.lemmas.Bool.{cases_lt}
use Rattle.std.specs.List.{AllByRecursion}
use Rattle.counting_laws.specs.Counting.{Distinct, AtMost}

pub AllByRecursion-weaker : {X : Type 0} (P Q : X → Type 0) → ((x : X) → P x → Q x) → (xs : List X) → AllByRecursion P xs → AllByRecursion Q xs
AllByRecursion-weaker P Q f [] h = tt
AllByRecursion-weaker P Q f (x ∷ xs) h = (f x h.0, AllByRecursion-weaker P Q f xs h.1)

AllByRecursion-filter : {X : Type 0} (p : X → Bool) (P : X → Type 0) (xs : List X) → AllByRecursion P xs → AllByRecursion (λ x. P x × (p x ≡ true)) (filter p xs)
AllByRecursion-filter p P [] h = tt
AllByRecursion-filter p P (x ∷ xs) h = go (p x) refl (AllByRecursion-filter p P xs h.1)
  where
    go : (b : Bool) → p x ≡ b → AllByRecursion (λ x. P x × (p x ≡ true)) (filter p xs) → AllByRecursion (λ x. P x × (p x ≡ true)) (cond b (x ∷ filter p xs) (filter p xs))
    go true e r = ((h.0, e), r)
    go false e r = r

AllByRecursion-filter_plain : {X : Type 0} (p : X → Bool) (P : X → Type 0) (xs : List X) → AllByRecursion P xs → AllByRecursion P (filter p xs)
AllByRecursion-filter_plain p P xs h = AllByRecursion-weaker (λ x. P x × (p x ≡ true)) P (λ x r. r.0) (filter p xs) (AllByRecursion-filter p P xs h)

Distinct-filter : {X : Type 0} (p : X → Bool) (xs : List X) → Distinct xs → Distinct (filter p xs)
Distinct-filter p [] h = tt
Distinct-filter p (x ∷ xs) h = go (p x) (Distinct-filter p xs h.1)
  where
    go : (b : Bool) → Distinct (filter p xs) → Distinct (cond b (x ∷ filter p xs) (filter p xs))
    go true r = (AllByRecursion-filter_plain p (λ y. y ≡ x → ⊥) xs h.0, r)
    go false r = r

length-filters : {X : Type 0} (p : X → Bool) (xs : List X) → length xs ≡ length (filter p xs) + length (filter (λ x. not (p x)) xs)
length-filters p [] = refl
length-filters p (x ∷ xs) = go (p x) (length-filters p xs)
  where
    go : (b : Bool) → length xs ≡ length (filter p xs) + length (filter (λ x. not (p x)) xs)
        → suc (length xs) ≡ length (cond b (x ∷ filter p xs) (filter p xs)) + length (cond (not b) (x ∷ filter (λ x. not (p x)) xs) (filter (λ x. not (p x)) xs))
    go true r = omega arith
    go false r = omega arith

-- a bound by two cases of a test
pub at_most_split : {X : Type 0} (p : X → Bool) (P : X → Type 0) (j k : ℕ) → AtMost j (λ x. P x × (p x ≡ true)) → AtMost k (λ x. P x × (not (p x) ≡ true)) → AtMost (j + k) P
at_most_split p P j k f g xs d h =
    let a = f (filter p xs) (Distinct-filter p xs d) (AllByRecursion-filter p P xs h) in
    let b = g (filter (λ x. not (p x)) xs) (Distinct-filter (λ x. not (p x)) xs d) (AllByRecursion-filter (λ x. not (p x)) P xs h) in
    let e = length-filters p xs in
    omega arith

pub at_most_weaker : {X : Type 0} (P Q : X → Type 0) (j k : ℕ) → ((x : X) → P x → Q x) → j ≤ k → AtMost j Q → AtMost k P
at_most_weaker P Q j k f le h xs d e = let r = h xs d (AllByRecursion-weaker P Q f xs e) in omega arith

-- at most one number is a given one
pub at_most_one : {X : Type 0} (P : X → Type 0) (a : X) → ((x : X) → P x → x ≡ a) → AtMost 1 P
at_most_one P a f [] d h = omega arith
at_most_one P a f (x ∷ []) d h = omega arith
at_most_one P a f (x ∷ y ∷ xs) d h = absurd (d.0.0 (f y h.1.0 ∙ sym (f x h.0)))

-- to show a bound, show that more are absurd
pub at_most_from : {X : Type 0} (P : X → Type 0) (k : ℕ) → ((xs : List X) → Distinct xs → AllByRecursion P xs → k < length xs → ⊥) → AtMost k P
at_most_from P k f xs d h = go (cases_lt k (length xs))
  where
    go : (k < length xs) ⊎ (length xs ≤ k) → length xs ≤ k
    go (inl l) = absurd (f xs d h l)
    go (inr l) = l

pub at_most_none : {X : Type 0} (P : X → Type 0) (k : ℕ) → ((x : X) → P x → ⊥) → AtMost k P
at_most_none P k f [] d h = omega arith
at_most_none P k f (x ∷ xs) d h = absurd (f x h.0)
