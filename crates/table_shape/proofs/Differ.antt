-- Names that differ, where one is added at the end.
use Rattle.std.proofs.Common.{◌≡◌, ℕ, false, List, [], ◌∷◌, ◌++◌, refl, ◌∙◌}
use Rattle.std.specs.List.{list_any, AllByRecursion, IsDistinct}
use Rattle.std.specs.Str.{bytes_eq}
use Rattle.std.proofs.lemmas.Bool.{or_parts, or_from}
use Rattle.std.proofs.lemmas.Cmp.{nat_list_eq_equiv}

all_snoc : (x : List ℕ) (names : List (List ℕ)) (name : List ℕ) → AllByRecursion (λ y. bytes_eq x y ≡ false) names → bytes_eq x name ≡ false → AllByRecursion (λ y. bytes_eq x y ≡ false) (names ++ name ∷ [])
all_snoc x [] name h e = (e, tt)
all_snoc x (y ∷ names) name h e = (h.0, all_snoc x names name h.1 e)

-- a new name at the end
pub differ_snoc : (names : List (List ℕ)) (name : List ℕ) → IsDistinct bytes_eq names → list_any (bytes_eq name) names ≡ false → IsDistinct bytes_eq (names ++ name ∷ [])
unfolding IsDistinct
differ_snoc [] name d f = (tt, tt)
differ_snoc (x ∷ names) name d f =
    let p = or_parts (bytes_eq name x) (list_any (bytes_eq name) names) f in
    (all_snoc x names name d.0 (nat_list_eq_equiv.symm x name ∙ p.0), differ_snoc names name d.1 p.1)

all_at : (x : List ℕ) (names more : List (List ℕ)) (name : List ℕ) → AllByRecursion (λ y. bytes_eq x y ≡ false) (names ++ name ∷ more) → bytes_eq x name ≡ false
all_at x [] more name h = h.0
all_at x (y ∷ names) more name h = all_at x names more name h.1

-- a name is new after those before it
pub new_after : (names more : List (List ℕ)) (name : List ℕ) → IsDistinct bytes_eq (names ++ name ∷ more) → list_any (bytes_eq name) names ≡ false
unfolding IsDistinct
new_after [] more name d = refl
new_after (x ∷ names) more name d =
    or_from (bytes_eq name x) (list_any (bytes_eq name) names) (nat_list_eq_equiv.symm name x ∙ all_at x names more name d.0) (new_after names more name d.1)

pub no_names_differ : IsDistinct bytes_eq []
unfolding IsDistinct
no_names_differ = tt
