-- Several claims at once, and multisets that aren't unequal.
use Rattle.std.proofs.Common.{◌≡◌, ℕ, ◌<◌, List, [], ◌∷◌, length, Bool, true, false, refl, sym, ◌∙◌, arith}
use Rattle.std.specs.List.{AllByRecursion}
use Rattle.counting_laws.specs.Counting.{Distinct, AtMost}
use Rattle.counting_laws.specs.Multiset.{Same}
use Rattle.counting_laws.proofs.Bounds.{AllByRecursion-weaker, at_most_from}
use Rattle.counting_laws.proofs.Permutations.{same_test, same_from_test, test_from_same}
use Rattle.counting_laws.proofs.Removal.{Tells}

false_true : false ≡ true → ⊥
false_true e = cc

-- multisets that aren't unequal are equal
pub same_or_not : {X : Type 0} (e : X → X → Bool) → Tells e → (xs ys : List X) → ((Same e xs ys → ⊥) → ⊥) → Same e xs ys
same_or_not {X} e t xs ys h = go (same_test e xs ys) refl
  where
    go : (b : Bool) → same_test e xs ys ≡ b → Same e xs ys
    go true q = same_from_test e t xs ys q
    go false q = absurd (h (λ s. false_true (sym q ∙ test_from_same e xs ys s)))

-- ---- several claims after one draw
-- a claim that is true where it can't be false, and that few draws make pass where it isn't true
pub record Bounded {X : Type 0} (T : Type 0) (k : ℕ) (P : X → Type 0) : Type 0 where
  pub stable : ((T → ⊥) → ⊥) → T
  pub counted : (T → ⊥) → AtMost k P

all_true : {X C : Type 0} (P : X → C → Type 0) (T : C → Type 0) (k : ℕ) (cs : List C) → AllByRecursion (λ c. Bounded (T c) k (λ x. P x c)) cs
    → (xs : List X) → Distinct xs → AllByRecursion (λ x. AllByRecursion (P x) cs) xs → k < length xs → AllByRecursion T cs
all_true P T k [] h xs d e more = tt
all_true P T k (c ∷ cs) h xs d e more = (
  h.0.stable (λ wrong. let r = h.0.counted wrong xs d (AllByRecursion-weaker (λ x. AllByRecursion (P x) (c ∷ cs)) (λ x. P x c) (λ x a. a.0) xs e) in omega arith),
  all_true P T k cs h.1 xs d (AllByRecursion-weaker (λ x. AllByRecursion (P x) (c ∷ cs)) (λ x. AllByRecursion (P x) cs) (λ x a. a.1) xs e) more,
)

-- claims that aren't all true all pass for at most as many draws as one of them
pub several_counted : {X C : Type 0} (P : X → C → Type 0) (T : C → Type 0) (k : ℕ) (cs : List C) → AllByRecursion (λ c. Bounded (T c) k (λ x. P x c)) cs
    → (AllByRecursion T cs → ⊥) → AtMost k (λ x. AllByRecursion (P x) cs)
several_counted P T k cs h wrong = at_most_from (λ x. AllByRecursion (P x) cs) k (λ xs d e more. wrong (all_true P T k cs h xs d e more))

-- the same of n claims that tests tell
pub tests_counted : (n k : ℕ) (holds : ℕ → Bool) (passes : ℕ → ℕ → Bool) → ((i : ℕ) → i < n → holds i ≡ false → AtMost k (λ x. passes i x ≡ true))
    → (((i : ℕ) → i < n → holds i ≡ true) → ⊥) → AtMost k (λ x. (i : ℕ) → i < n → passes i x ≡ true)
tests_counted n k holds passes h wrong =
    at_most_from (λ x. (i : ℕ) → i < n → passes i x ≡ true) k (λ xs d e more. wrong (λ i l. go i l xs d e more (holds i) refl))
  where
    go : (i : ℕ) → i < n → (xs : List ℕ) → Distinct xs → AllByRecursion (λ x. (i : ℕ) → i < n → passes i x ≡ true) xs → k < length xs → (b : Bool) → holds i ≡ b → b ≡ true
    go i l xs d e more true q = refl
    go i l xs d e more false q = let r = h i l q xs d (AllByRecursion-weaker (λ x. (i : ℕ) → i < n → passes i x ≡ true) (λ x. passes i x ≡ true) (λ x a. a i l) xs e) in absurd (omega arith)
