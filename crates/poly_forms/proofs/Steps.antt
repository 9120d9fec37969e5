-- A step of the loop over the coefficients, the highest first.
use Rattle.std.proofs.Common.{◌≡◌, ℕ, List, [], ◌∷◌, ◌++◌, map, reverse, bit_xor, refl, sym, ◌∙◌, ap}
use Rattle.std.proofs.lemmas.List.{map_push, reverse-append}
use Rattle.tower_laws.specs.Tower.{mul}
use Rattle.tower_laws.proofs.Field.{identity, field_terms}
use Rattle.poly_laws.specs.Polynomial.{horner}

-- the next coefficient joins with the product on either side
either_side : (c v x : ℕ) → bit_xor c (mul v x) ≡ bit_xor c (mul x v)
either_side c v x = identity (c ∷ v ∷ x ∷ []) (search field_terms depth 60 fits 20000) refl

lowest_last : {X : Type 0} (number : X → ℕ) (items : List X) (item : X) → reverse (map number (items ++ item ∷ [])) ≡ number item ∷ reverse (map number items)
lowest_last number items item = ap reverse (map_push number items item) ∙ reverse-append (map number items) (number item ∷ [])

-- from the value of the coefficients so far to that with one more, the new lowest
pub one_more : {X : Type 0} (number : X → ℕ) (items : List X) (item : X) (x v p s : ℕ) → v ≡ horner (reverse (map number items)) x → p ≡ mul v x → s ≡ bit_xor (number item) p
    → s ≡ horner (reverse (map number (items ++ item ∷ []))) x
one_more number items item x v p s h e q =
    q ∙ ap (λ w. bit_xor (number item) w) (e ∙ ap (λ w. mul w x) h) ∙ either_side (number item) (horner (reverse (map number items)) x) x ∙ sym (ap (λ cs. horner cs x) (lowest_last number items item))
