-- The laws of counting, as statements.
-- Source: docs/LAWS.md, "counting_laws: counting and multisets".
use Rattle.std.specs.Prelude.{◌≡◌, ◌+◌, ◌*◌, ◌-◌, ◌^◌, ◌<◌, ◌↔◌, ℕ, List, [], ◌∷◌, ◌++◌, length, Bool, true, false, ◌||◌, IsPermutation}
use Rattle.std.specs.List.{AllByRecursion}
use Rattle.counting_laws.specs.Counting.{AtMost}
use Rattle.counting_laws.specs.Multiset.{Same, same_number, same_tuple, product_by}

-- of two tests together no more numbers pass than of each alone
abbrev pub CountsAdd : Type 0
CountsAdd = (p q : ℕ → Bool) (j k : ℕ) → AtMost j (λ x. p x ≡ true) → AtMost k (λ x. q x ≡ true) → AtMost (j + k) (λ x. (p x || q x) ≡ true)

-- equal counts of numbers are an equal list but for the order
abbrev pub SameNumbers : Type 0
SameNumbers = (xs ys : List ℕ) → Same same_number xs ys ↔ IsPermutation xs ys

-- equal counts of tuples are an equal list but for the order
abbrev pub SameTuples : Type 0
SameTuples = (xs ys : List (List ℕ)) → Same same_tuple xs ys ↔ IsPermutation xs ys

-- products over equal multisets of tuples are equal
abbrev pub SameProducts : Type 0
SameProducts = (f : List ℕ → ℕ) (xs ys : List (List ℕ)) → Same same_tuple xs ys → product_by f xs ≡ product_by f ys

-- multisets that aren't unequal are equal
pub record AreStable : Type 0 where
  pub numbers : (xs ys : List ℕ) → ¬ (¬ Same same_number xs ys) → Same same_number xs ys
  pub tuples : (xs ys : List (List ℕ)) → ¬ (¬ Same same_tuple xs ys) → Same same_tuple xs ys

-- of n claims that don't all hold, all pass for at most k draws, where each that doesn't hold passes for at most k
abbrev pub SeveralAreCounted : Type 0
SeveralAreCounted =
    (n k : ℕ) (holds : ℕ → Bool) (passes : ℕ → ℕ → Bool) → ((i : ℕ) → i < n → holds i ≡ false → AtMost k (λ x. passes i x ≡ true))
    → ¬ ((i : ℕ) → i < n → holds i ≡ true) → AtMost k (λ x. (i : ℕ) → i < n → passes i x ≡ true)

-- k draws, of which at most one number passes each where none passed before: at most k · q ^ (k - 1) vectors of k numbers below q pass.
-- The test tells whether draws so far pass
abbrev pub ChainsAreCounted : Type 0
ChainsAreCounted =
    (q k : ℕ) (passes : List ℕ → Bool) → passes [] ≡ false → ((v : List ℕ) → length v < k → passes v ≡ false → AtMost 1 (λ r. passes (v ++ r ∷ []) ≡ true))
    → AtMost (k * q ^ (k - 1)) (λ v. (length v ≡ k) × AllByRecursion (λ c. c < q) v × (passes v ≡ true))
