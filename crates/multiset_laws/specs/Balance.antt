-- Pairs of multisets of tuples that are to be equal, several at once.
-- Source: docs/LAWS.md, "multiset_laws: products that tell multisets apart".
use Rattle.std.specs.Prelude.{◌≡◌, ◌≤◌, ℕ, List, map, length}
use Rattle.std.specs.List.{AllByRecursion}
use Rattle.counting_laws.specs.Multiset.{Same, same_number, same_tuple, product_by}
use Rattle.poly_laws.specs.Polynomial.{horner}
use Rattle.multiset_laws.specs.Fingerprint.{fingerprint}

-- what is pushed and what is pulled, in tuples of one width
pub record Balance : Type 0 where
  pub width : ℕ
  pub pushed : List (List ℕ)
  pub pulled : List (List ℕ)

-- all tuples have the width, which is not 0
abbrev pub IsWide : Balance → Type 0
IsWide b = (1 ≤ b.width) × AllByRecursion (λ t. length t ≡ b.width) b.pushed × AllByRecursion (λ t. length t ≡ b.width) b.pulled

-- each tuple is pushed as often as it is pulled
abbrev pub IsBalanced : Balance → Type 0
IsBalanced b = Same same_tuple b.pushed b.pulled

-- the sums of t_j · a ^ j are pushed as often as they are pulled
abbrev pub IsCollapsed : ℕ → Balance → Type 0
IsCollapsed a b = Same same_number (map (λ t. horner t a) b.pushed) (map (λ t. horner t a) b.pulled)

-- the products of fingerprints are equal
abbrev pub HasEqualProducts : ℕ → ℕ → Balance → Type 0
HasEqualProducts a g b = product_by (fingerprint a g) b.pushed ≡ product_by (fingerprint a g) b.pulled
