-- What the table of products with the last generator of level 3 holds.
use Rattle.std.proofs.Common.{◌≡◌, ℕ, ◌<◌, refl, ◌∙◌, ap, map, get_or, zero-add}
use Rattle.std.specs.List.{range_with_len}
use Rattle.std.proofs.lemmas.List.FromFn.{get_or-map-range_with_len}
use Rattle.tower_laws.specs.Tower.{mul, product, generator}
use Rattle.tower_laws.proofs.Levels.{product_mul, generator_lt}
use Rattle.tower_field.specs.declared.byte.TheConstants.{CARRIED}

carried_are : CARRIED ≡ map (λ k. product 3 k (generator 3)) (range_with_len 0 256)
unfolding product generator
carried_are = refl

pub carried_is : (a : ℕ) → a < 256 → get_or CARRIED a 0 ≡ mul a (generator 3)
carried_is a h =
    ap (λ t. get_or t a 0) carried_are ∙ get_or-map-range_with_len (λ k. product 3 k (generator 3)) 0 256 a a 0 h (zero-add a)
    ∙ product_mul 3 a (generator 3) h (generator_lt 3)
