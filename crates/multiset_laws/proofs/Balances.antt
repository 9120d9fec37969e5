-- Several balances at once.
use Rattle.std.proofs.Common.{ℕ, ◌+◌, ◌*◌, ◌-◌, ◌≤◌, max, List, [], ◌∷◌, map, length, bit_xor, sym, ◌∙◌, arith}
use Rattle.std.specs.List.{AllByRecursion}
use Rattle.std.proofs.lemmas.List.{length-map}
use Rattle.counting_laws.specs.Counting.{AtMost}
use Rattle.counting_laws.specs.Multiset.{same_number, same_tuple}
use Rattle.std.proofs.lemmas.List.Sorted.{IsPermutation-map}
use Rattle.counting_laws.proofs.Bounds.{at_most_weaker, AllByRecursion-weaker}
use Rattle.counting_laws.proofs.Permutations.{same_from_permutation, permutation_from_same}
use Rattle.counting_laws.proofs.Removal.{numbers, tuples, same_products}
use Rattle.counting_laws.proofs.Several.{Bounded, same_or_not, several_counted}
use Rattle.poly_laws.specs.Polynomial.{horner}
use Rattle.multiset_laws.proofs.CollapseBound.{collapses_apart}
use Rattle.multiset_laws.proofs.ProductBound.{products_apart}
use Rattle.multiset_laws.proofs.Leaves.{product_by-map}
use Rattle.multiset_laws.specs.Balance.{Balance, IsWide, IsBalanced, IsCollapsed, HasEqualProducts}

each_alpha : (k : ℕ) (bs : List Balance) → AllByRecursion IsWide bs → AllByRecursion (λ b. (length b.pushed + length b.pulled) * (b.width - 1) ≤ k) bs → AllByRecursion (λ b. Bounded (IsBalanced b) k (λ a. IsCollapsed a b)) bs
each_alpha k [] w l = tt
each_alpha k (b ∷ bs) w l =
    (record { stable = same_or_not same_tuple tuples b.pushed b.pulled; counted = λ ne. at_most_weaker (λ a. IsCollapsed a b) (λ a. IsCollapsed a b) _ k (λ a h. h) l.0 (collapses_apart b.width b.pushed b.pulled w.0.0 w.0.1 w.0.2 ne) }, each_alpha k bs w.1 l.1)

pub alpha_count : (k : ℕ) (bs : List Balance) → AllByRecursion IsWide bs → AllByRecursion (λ b. (length b.pushed + length b.pulled) * (b.width - 1) ≤ k) bs → ¬ AllByRecursion IsBalanced bs → AtMost k (λ a. AllByRecursion (IsCollapsed a) bs)
alpha_count k bs w l wrong = several_counted IsCollapsed IsBalanced k bs (each_alpha k bs w l) wrong

each_gamma : (k a : ℕ) (bs : List Balance) → AllByRecursion (λ b. max (length b.pushed) (length b.pulled) ≤ k) bs → AllByRecursion (λ b. Bounded (IsCollapsed a b) k (λ g. HasEqualProducts a g b)) bs
each_gamma k a [] l = tt
each_gamma k a (b ∷ bs) l =
    let p = length-map b.pushed (λ t. horner t a) in
    let q = length-map b.pulled (λ t. horner t a) in
    let m = l.0 in (
      record {
        stable = same_or_not same_number numbers (map (λ t. horner t a) b.pushed) (map (λ t. horner t a) b.pulled);
        counted = λ ne. at_most_weaker (λ g. HasEqualProducts a g b) _ _ k (λ g h. product_by-map (bit_xor g) (λ t. horner t a) b.pushed ∙ h ∙ sym (product_by-map (bit_xor g) (λ t. horner t a) b.pulled)) (omega arith)
            (products_apart (map (λ t. horner t a) b.pushed) (map (λ t. horner t a) b.pulled) ne);
      },
      each_gamma k a bs l.1,
    )

pub gamma_count : (k a : ℕ) (bs : List Balance) → AllByRecursion (λ b. max (length b.pushed) (length b.pulled) ≤ k) bs → ¬ AllByRecursion (IsCollapsed a) bs → AtMost k (λ g. AllByRecursion (HasEqualProducts a g) bs)
gamma_count k a bs l wrong = several_counted (HasEqualProducts a) (IsCollapsed a) k bs (each_gamma k a bs l) wrong

-- ---- where all hold
pub all_collapsed : (a : ℕ) (bs : List Balance) → AllByRecursion IsBalanced bs → AllByRecursion (IsCollapsed a) bs
all_collapsed a bs h = AllByRecursion-weaker IsBalanced (IsCollapsed a) (λ b s. same_from_permutation same_number _ _ (IsPermutation-map (λ t. horner t a) b.pushed b.pulled (permutation_from_same same_tuple tuples b.pushed b.pulled s))) bs h

pub all_multiplied : (a g : ℕ) (bs : List Balance) → AllByRecursion (IsCollapsed a) bs → AllByRecursion (HasEqualProducts a g) bs
all_multiplied a g bs h =
    AllByRecursion-weaker (IsCollapsed a) (HasEqualProducts a g)
    (λ b s. sym (product_by-map (bit_xor g) (λ t. horner t a) b.pushed) ∙ same_products same_number numbers (bit_xor g) (map (λ t. horner t a) b.pushed) (map (λ t. horner t a) b.pulled) s ∙ product_by-map (bit_xor g) (λ t. horner t a) b.pulled) bs h
