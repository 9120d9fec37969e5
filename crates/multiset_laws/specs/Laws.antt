-- The laws of products over multisets, as statements.
-- Source: docs/LAWS.md, "multiset_laws: products that tell multisets apart".
use Rattle.std.specs.Prelude.{◌≡◌, ◌≤◌, ◌+◌, ◌-◌, ◌*◌, max, ℕ, List, [], ◌∷◌, map, length, Bool, false, cond, bit_xor}
use Rattle.std.specs.List.{AllByRecursion, filter}
use Rattle.counting_laws.specs.Counting.{AtMost}
use Rattle.counting_laws.specs.Multiset.{Same, same_number, same_tuple, product_by}
use Rattle.poly_laws.specs.Polynomial.{horner}
use Rattle.multiset_laws.specs.Fingerprint.{fingerprint, leaf}
use Rattle.multiset_laws.specs.Balance.{Balance, IsWide, IsBalanced, IsCollapsed, HasEqualProducts}

-- of unequal multisets the products of g + x agree for at most as many g as the longer list has members
abbrev pub ProductsSeldomAgree : Type 0
ProductsSeldomAgree = (xs ys : List ℕ) → ¬ Same same_number xs ys → AtMost (max (length xs) (length ys)) (λ g. product_by (bit_xor g) xs ≡ product_by (bit_xor g) ys)

-- unequal multisets of tuples of width w collapse to equal ones for at most (w - 1) a for each tuple
abbrev pub CollapsesSeldomAgree : Type 0
CollapsesSeldomAgree =
    (w : ℕ) (ts us : List (List ℕ)) → 1 ≤ w → AllByRecursion (λ t. length t ≡ w) ts → AllByRecursion (λ u. length u ≡ w) us → ¬ Same same_tuple ts us
    → AtMost ((length ts + length us) * (w - 1)) (λ a. Same same_number (map (λ t. horner t a) ts) (map (λ u. horner u a) us))

-- equal multisets of tuples have equal products of fingerprints, whatever the challenges
abbrev pub FingerprintsAgree : Type 0
FingerprintsAgree = (ts us : List (List ℕ)) → Same same_tuple ts us → (a g : ℕ) → product_by (fingerprint a g) ts ≡ product_by (fingerprint a g) us

-- the product of the leaves of rows is that of the fingerprints of the rows that are there and selected
abbrev pub LeavesAreFingerprints : Type 0
LeavesAreFingerprints =
    (a g : ℕ) (is_there selected : ℕ → Bool) (tuple : ℕ → List ℕ) (rows : List ℕ)
    → product_by (λ y. leaf (cond (is_there y) 1 0) (cond (selected y) 1 0) (fingerprint a g (tuple y))) rows
    ≡ product_by (fingerprint a g) (map tuple (filter (λ y. cond (is_there y) (selected y) false) rows))

-- several balances: how many a and how many g hide that one fails, and that none fails where all hold
pub record AreBalances : Type 0 where
  pub alpha : (k : ℕ) (bs : List Balance) → AllByRecursion IsWide bs → AllByRecursion (λ b. (length b.pushed + length b.pulled) * (b.width - 1) ≤ k) bs
      → ¬ AllByRecursion IsBalanced bs → AtMost k (λ a. AllByRecursion (IsCollapsed a) bs)
  pub gamma : (k a : ℕ) (bs : List Balance) → AllByRecursion (λ b. max (length b.pushed) (length b.pulled) ≤ k) bs
      → ¬ AllByRecursion (IsCollapsed a) bs → AtMost k (λ g. AllByRecursion (HasEqualProducts a g) bs)
  pub collapsed : (a : ℕ) (bs : List Balance) → AllByRecursion IsBalanced bs → AllByRecursion (IsCollapsed a) bs
  pub multiplied : (a g : ℕ) (bs : List Balance) → AllByRecursion (IsCollapsed a) bs → AllByRecursion (HasEqualProducts a g) bs

-- values worked out by hand: 3 + 2 · 1 = 1, and with the leaf of a row taken, left and not there
pub record AreWorked : Type 0 where
  pub fingerprint_is : fingerprint 2 4 (3 ∷ 1 ∷ []) ≡ 5
  pub taken_leaf : leaf 1 1 5 ≡ 5
  pub left_leaf : leaf 1 0 5 ≡ 1
