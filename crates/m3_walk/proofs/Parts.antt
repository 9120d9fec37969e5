-- Lists of claims taken apart and put together: what holds of all.
use Rattle.std.proofs.Common.{◌≡◌, ℕ, Bool, true, false, cond, List, [], ◌∷◌, ◌++◌, None, Some, refl, sym, ap, subst}
use Rattle.std.specs.List.{AllByRecursion, filter}
use Rattle.sumcheck.specs.declared.column_claim.ColumnClaim.{ColumnClaim}
use Rattle.claim_lists.specs.ByColumn.{by_column, inserted, stands_before}
use Rattle.claim_lists.specs.OnColumn.{is_on, but_first_on, first_on}

-- ---- joined
pub all_joined : {X : Type 0} (P : X → Type 0) (xs ys : List X) → AllByRecursion P xs → AllByRecursion P ys → AllByRecursion P (xs ++ ys)
all_joined P [] ys h k = k
all_joined P (x ∷ xs) ys h k = (h.0, all_joined P xs ys h.1 k)

pub first_part : {X : Type 0} (P : X → Type 0) (xs ys : List X) → AllByRecursion P (xs ++ ys) → AllByRecursion P xs
first_part P [] ys h = tt
first_part P (x ∷ xs) ys h = (h.0, first_part P xs ys h.1)

pub second_part : {X : Type 0} (P : X → Type 0) (xs ys : List X) → AllByRecursion P (xs ++ ys) → AllByRecursion P ys
second_part P [] ys h = h
second_part P (x ∷ xs) ys h = second_part P xs ys h.1

-- ---- by a test
pub all_kept : {X : Type 0} (P : X → Type 0) (p : X → Bool) (xs : List X) → AllByRecursion P xs → AllByRecursion P (filter p xs)
all_kept P p [] h = tt
all_kept P p (x ∷ xs) h =
    elim (p x) as (λ t. AllByRecursion P (cond t (x ∷ filter p xs) (filter p xs))) [ true ↦ (h.0, all_kept P p xs h.1) | false ↦ all_kept P p xs h.1 ]

-- those that pass a test and those that don't
pub all_parts : {X : Type 0} (P : X → Type 0) (p : X → Bool) (xs : List X) → AllByRecursion P (filter p xs) → AllByRecursion P (filter (λ x. cond (p x) false true) xs) → AllByRecursion P xs
all_parts P p [] h k = tt
all_parts P p (x ∷ xs) h k =
    elim (p x) as (λ t. AllByRecursion P (cond t (x ∷ filter p xs) (filter p xs)) → AllByRecursion P (cond (cond t false true) (x ∷ filter (λ x. cond (p x) false true) xs) (filter (λ x. cond (p x) false true) xs)) → AllByRecursion P (x ∷ xs)) [
      | true ↦ λ a b. (a.0, all_parts P p xs a.1 b)
      | false ↦ λ a b. (b.0, all_parts P p xs a b.1)
    ] h k

-- ---- one claim on a column
-- what holds of the first on a column and of the others holds of all
pub all_but_first : (P : ColumnClaim → Type 0) (t c : ℕ) (cs : List ColumnClaim) → AllByRecursion P cs → AllByRecursion P (but_first_on t c cs)
all_but_first P t c [] h = tt
all_but_first P t c (d ∷ ds) h =
    elim (is_on t c d) as (λ b. AllByRecursion P (cond b ds (d ∷ but_first_on t c ds))) [ true ↦ h.1 | false ↦ (h.0, all_but_first P t c ds h.1) ]

pub the_first : (P : ColumnClaim → Type 0) (t c : ℕ) (cs : List ColumnClaim) (d : ColumnClaim) → first_on t c cs ≡ Some d → AllByRecursion P cs → P d
the_first P t c [] d e h = absurd (none_is e)
  where
    none_is : None ≡ Some d → ⊥
    none_is e = cc
the_first P t c (x ∷ xs) d e h =
    elim (is_on t c x) as (λ b. cond b (Some x) (first_on t c xs) ≡ Some d → P d) [
      | true ↦ λ s. subst P (some_is x d s) h.0
      | false ↦ λ s. the_first P t c xs d s h.1
    ] e
  where
    some_is : (x d : ColumnClaim) → Some x ≡ Some d → x ≡ d
    some_is x d s = cc

pub with_first : (P : ColumnClaim → Type 0) (t c : ℕ) (cs : List ColumnClaim) (d : ColumnClaim) → first_on t c cs ≡ Some d → P d → AllByRecursion P (but_first_on t c cs) → AllByRecursion P cs
with_first P t c [] d e h k = tt
with_first P t c (x ∷ xs) d e h k =
    elim (is_on t c x) as (λ b. cond b (Some x) (first_on t c xs) ≡ Some d → AllByRecursion P (cond b xs (x ∷ but_first_on t c xs)) → AllByRecursion P (x ∷ xs)) [
      | true ↦ λ s l. (subst P (sym (some_is x d s)) h, l)
      | false ↦ λ s l. (l.0, with_first P t c xs d s h l.1)
    ] e k
  where
    some_is : (x d : ColumnClaim) → Some x ≡ Some d → x ≡ d
    some_is x d s = cc

-- where there is none, all stay
pub none_on : (t c : ℕ) (cs : List ColumnClaim) → first_on t c cs ≡ None → but_first_on t c cs ≡ cs
none_on t c [] e = refl
none_on t c (x ∷ xs) e =
    elim (is_on t c x) as (λ b. cond b (Some x) (first_on t c xs) ≡ None → cond b xs (x ∷ but_first_on t c xs) ≡ x ∷ xs) [
      | true ↦ λ s. absurd (some_none x s)
      | false ↦ λ s. ap (λ l. x ∷ l) (none_on t c xs s)
    ] e
  where
    some_none : (x : ColumnClaim) → Some x ≡ None → ⊥
    some_none x s = cc

-- ---- in order
pub all_inserted : (P : ColumnClaim → Type 0) (c : ColumnClaim) (cs : List ColumnClaim) → P c → AllByRecursion P cs → AllByRecursion P (inserted c cs)
all_inserted P c [] h k = (h, tt)
all_inserted P c (d ∷ ds) h k =
    elim (stands_before d c) as (λ b. AllByRecursion P (cond b (d ∷ inserted c ds) (c ∷ d ∷ ds))) [ true ↦ (k.0, all_inserted P c ds h k.1) | false ↦ (h, k) ]

pub inserted_all : (P : ColumnClaim → Type 0) (c : ColumnClaim) (cs : List ColumnClaim) → AllByRecursion P (inserted c cs) → P c × AllByRecursion P cs
inserted_all P c [] h = h
inserted_all P c (d ∷ ds) h =
    elim (stands_before d c) as (λ b. AllByRecursion P (cond b (d ∷ inserted c ds) (c ∷ d ∷ ds)) → P c × AllByRecursion P (d ∷ ds)) [
      | true ↦ λ k. let r = inserted_all P c ds k.1 in (r.0, (k.0, r.1))
      | false ↦ λ k. k
    ] h

pub all_ordered : (P : ColumnClaim → Type 0) (cs : List ColumnClaim) → AllByRecursion P cs → AllByRecursion P (by_column cs)
all_ordered P [] h = tt
all_ordered P (c ∷ cs) h = all_inserted P c (by_column cs) h.0 (all_ordered P cs h.1)

pub ordered_all : (P : ColumnClaim → Type 0) (cs : List ColumnClaim) → AllByRecursion P (by_column cs) → AllByRecursion P cs
ordered_all P [] h = tt
ordered_all P (c ∷ cs) h = let r = inserted_all P c (by_column cs) h in (r.0, ordered_all P cs r.1)
