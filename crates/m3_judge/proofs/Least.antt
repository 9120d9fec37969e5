-- The least tuple of unequal counts, by lists in order.
use Rattle.std.proofs.Common.{◌≡◌, ℕ, List, map, Option, Some, None, sym, ◌∙◌, ap, subst}
use Rattle.std.specs.Prelude.{option_map, MatchOption}
use Rattle.std.specs.List.Sorted.{IsPermutation}
use Rattle.std.proofs.lemmas.List.Sorted.{IsPermutation-map}
use Rattle.counting_laws.specs.Multiset.{Same, count, same_tuple}
use Rattle.counting_laws.proofs.Permutations.{same_from_permutation}
use Rattle.m3_judge.specs.Order.{IsAscending, first_difference, IsLeastUnequal}
use Rattle.m3_judge.proofs.Order.{orders_tell_multisets}

-- what is put in order has the same counts
pub reordered : {X : Type 0} (f : X → List ℕ) (xs ys : List X) (all : List (List ℕ)) → IsPermutation xs ys → map f xs ≡ all → Same same_tuple all (map f ys)
reordered f xs ys all p e t = ap (count same_tuple t) (sym e) ∙ same_from_permutation same_tuple (map f xs) (map f ys) (IsPermutation-map f xs ys p) t

-- where the lists first differ there is that tuple, and else there is none
pub least_found : {X : Type 0} (f : X → List ℕ) (xs ys : List X) (ts us : List (List ℕ)) (o : Option X) → Same same_tuple ts (map f xs) → Same same_tuple us (map f ys) → IsAscending (map f xs) → IsAscending (map f ys)
    → option_map f o ≡ first_difference (map f xs) (map f ys) → MatchOption o (Same same_tuple ts us) (λ x. IsLeastUnequal ts us (f x))
least_found f xs ys ts us None p q up vp e =
    let told = subst (λ (o : Option (List ℕ)). MatchOption o (Same same_tuple (map f xs) (map f ys)) (IsLeastUnequal (map f xs) (map f ys))) (sym e) (orders_tell_multisets (map f xs) (map f ys) up vp) in
    λ t. p t ∙ told t ∙ sym (q t)
least_found f xs ys ts us (Some x) p q up vp e =
    let told = subst (λ (o : Option (List ℕ)). MatchOption o (Same same_tuple (map f xs) (map f ys)) (IsLeastUnequal (map f xs) (map f ys))) (sym e) (orders_tell_multisets (map f xs) (map f ys) up vp) in
    record { unequal = λ h. told.unequal (sym (p (f x)) ∙ h ∙ q (f x)); below = λ t h. p t ∙ told.below t h ∙ sym (q t) }
