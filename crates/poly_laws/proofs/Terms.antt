-- The value of a polynomial as a sum of terms.
use Rattle.std.proofs.Common.{◌≡◌, ℕ, suc, List, [], ◌∷◌, bit_xor, refl}
use Rattle.tower_laws.specs.Tower.{mul}
use Rattle.tower_laws.specs.Lists.{sum_all}
use Rattle.tower_laws.proofs.Field.{identity, from_one, from_two, field_terms}
use Rattle.poly_laws.specs.Polynomial.{horner, power, terms}

no_term : (x : ℕ) → 0 ≡ mul x 0
no_term x = identity (x ∷ []) (search field_terms depth 60 fits 20000) refl

raised : (c x p s t : ℕ) → t ≡ mul x s → bit_xor (mul c (mul x p)) t ≡ mul x (bit_xor (mul c p) s)
raised c x p s t h = from_one 1 h (identity (c ∷ x ∷ p ∷ s ∷ t ∷ []) (search field_terms depth 60 fits 20000) refl)

-- one power more in each term
terms-suc : (n : ℕ) (cs : List ℕ) (x : ℕ) → sum_all (terms (suc n) cs x) ≡ mul x (sum_all (terms n cs x))
terms-suc n [] x = no_term x
terms-suc n (c ∷ cs) x = raised c x (power x n) _ _ (terms-suc (suc n) cs x)

first_term : (c x h s t : ℕ) → h ≡ s → t ≡ mul x s → bit_xor c (mul x h) ≡ bit_xor (mul c 1) t
first_term c x h s t e k = from_two x 1 e k (identity (c ∷ x ∷ h ∷ s ∷ t ∷ []) (search field_terms depth 60 fits 20000) refl)

pub value_is_sum : (cs : List ℕ) (x : ℕ) → horner cs x ≡ sum_all (terms 0 cs x)
value_is_sum [] x = refl
value_is_sum (c ∷ cs) x = first_term c x _ _ _ (value_is_sum cs x) (terms-suc 0 cs x)
