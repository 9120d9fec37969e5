-- Tuples in order, and where two lists of them first differ.
-- Source: docs/LANGUAGE.md, "Channels".
use Rattle.std.specs.Prelude.{◌≡◌, ◌≢◌, ℕ, true, false, cond, ◌==◌, List, [], ◌∷◌, Option, Some, None, MatchOption}
use Rattle.std.specs.List.{AllByRecursion}
use Rattle.std.specs.declared.cmp.Ordering.{Ordering}
use Rattle.std.specs.declared.cmp.Ordering.TheVariants.{Less, Equal, Greater}
use Rattle.std.specs.Ordering.{nat_cmp}
use Rattle.counting_laws.specs.Multiset.{count, same_tuple}
use Rattle.table_shape.specs.Satisfies.{is_below}

-- the order of two tuples: by their first numbers, then by their second ones, and so on
abbrev pub tuple_order : List ℕ → List ℕ → Ordering
tuple_order [] [] = Equal
tuple_order [] (y ∷ ys) = Less
tuple_order (x ∷ xs) [] = Greater
tuple_order (x ∷ xs) (y ∷ ys) = cond (x == y) (tuple_order xs ys) (nat_cmp x y)

-- no tuple is below one before it
abbrev pub IsAscending : List (List ℕ) → Type 0
IsAscending [] = Unit {0}
IsAscending (t ∷ ts) = AllByRecursion (λ u. is_below u t ≡ false) ts × IsAscending ts

-- where two lists first differ, the lesser of the two members there
abbrev pub first_difference : List (List ℕ) → List (List ℕ) → Option (List ℕ)
first_difference [] [] = None
first_difference [] (u ∷ us) = Some u
first_difference (t ∷ ts) [] = Some t
first_difference (t ∷ ts) (u ∷ us) = cond (same_tuple t u) (first_difference ts us) (Some (cond (is_below t u) t u))

-- a tuple that stands in two lists unequally often, while each one below it stands in them equally often
pub record IsLeastUnequal (ts us : List (List ℕ)) (least : List ℕ) : Type 0 where
  pub unequal : count same_tuple least ts ≢ count same_tuple least us
  pub below : (t : List ℕ) → is_below t least ≡ true → count same_tuple t ts ≡ count same_tuple t us

-- of two lists in order, the lesser of the first two members that differ is the least tuple that stands in them unequally often
abbrev pub OrdersTellMultisets : Type 0
OrdersTellMultisets =
    (ts us : List (List ℕ)) → IsAscending ts → IsAscending us → MatchOption (first_difference ts us) ((t : List ℕ) → count same_tuple t ts ≡ count same_tuple t us) (IsLeastUnequal ts us)
