-- What the table of inverses of level 3 holds.
use Rattle.std.proofs.Common.{◌≡◌, ℕ, zero, suc, ◌<◌, refl, sym, ◌∙◌, ap, arith, map, get_or}
use Rattle.std.specs.List.{range_with_len}
use Rattle.std.specs.Prelude.{replicate, ltb, true, false}
use Rattle.std.proofs.lemmas.Bool.{ltb-true}
use Rattle.std.proofs.lemmas.Simd.{get_or-replicate}
use Rattle.std.proofs.lemmas.List.FromFn.{get_or-map-range_with_len}
use Rattle.tower_laws.specs.Tower.{product, generator}
use Rattle.tower_laws.specs.Inverse.{inverse}
use Rattle.tower_laws.proofs.Levels.{product_mul}
use Rattle.tower_laws.proofs.Inverses.{inverse_unique, inverse_zero}
use Rattle.tower_field.specs.declared.byte.TheConstants.{INVERSES}

products_are : map (λ a. product 3 a (get_or INVERSES a 0)) (range_with_len 1 255) ≡ replicate 255 1
unfolding product generator
products_are = refl

inverses_small : map (λ a. ltb (get_or INVERSES a 0) 256) (range_with_len 1 255) ≡ replicate 255 true
inverses_small = refl

inverse_small : (a : ℕ) → a < 255 → get_or INVERSES (suc a) 0 < 256
inverse_small a h =
    ltb-true (get_or INVERSES (suc a) 0) 256
    (sym (get_or-map-range_with_len (λ a. ltb (get_or INVERSES a 0) 256) 1 255 a (suc a) false (omega arith) (omega arith))
    ∙ ap (λ t. get_or t a false) inverses_small ∙ get_or-replicate 255 a true false (omega arith))

product_is : (a : ℕ) → a < 255 → product 3 (suc a) (get_or INVERSES (suc a) 0) ≡ 1
product_is a h =
    sym (get_or-map-range_with_len (λ a. product 3 a (get_or INVERSES a 0)) 1 255 a (suc a) 0 (omega arith) (omega arith))
    ∙ ap (λ t. get_or t a 0) products_are ∙ get_or-replicate 255 a 1 0 (omega arith)

pub inverse_is : (a : ℕ) → a < 256 → get_or INVERSES a 0 ≡ inverse a
inverse_is zero h = sym inverse_zero
inverse_is (suc a) h =
    let s = inverse_small a (omega arith) in
    inverse_unique (suc a) (get_or INVERSES (suc a) 0) (sym (product_mul 3 (suc a) (get_or INVERSES (suc a) 0) h s) ∙ product_is a (omega arith))
