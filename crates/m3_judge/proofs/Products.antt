-- A product and a sum over a list, one part after another.
use Rattle.std.proofs.Common.{◌≡◌, ℕ, ◌<◌, ◌≤◌, ◌+◌, List, ◌∷◌, length, drop, get_or, map, bit_xor, refl, sym, ◌∙◌, subst, drop-cons, add-one}
use Rattle.std.specs.Int.Bits.{xor_assoc, xor_zero_r}
use Rattle.std.proofs.lemmas.List.{drop_all}
use Rattle.tower_laws.specs.Tower.{mul}
use Rattle.tower_laws.proofs.Levels.{field_one, field_comm, field_assoc}
use Rattle.tower_laws.specs.Lists.{product_all, sum_all}

mul-one : (a : ℕ) → mul a 1 ≡ a
mul-one a = field_comm a 1 ∙ field_one a

-- the product so far takes in the factor at a place
pub products_next : {X : Type 0} (V : X → ℕ) (parts : List X) (i : ℕ) (part : X) (product all : ℕ)
    → i < length parts → part ≡ get_or parts i part → mul product (product_all (map V (drop i parts))) ≡ all → mul (mul product (V part)) (product_all (map V (drop (i + 1) parts))) ≡ all
products_next V parts i part product all below is so_far =
    let e : drop i parts ≡ part ∷ drop (i + 1) parts = drop-cons parts i part below ∙ rw (← is, add-one) refl in
    field_assoc product (V part) (product_all (map V (drop (i + 1) parts))) ∙ subst (λ ps. mul product (product_all (map V ps)) ≡ all) e so_far

-- no factor is left
pub products_done : {X : Type 0} (V : X → ℕ) (parts : List X) (i product all : ℕ) → length parts ≤ i → mul product (product_all (map V (drop i parts))) ≡ all → product ≡ all
products_done V parts i product all past so_far =
    sym (mul-one product) ∙ subst (λ ps. mul product (product_all (map V ps)) ≡ all) (drop_all i parts past) so_far

-- the first factor is taken, and the others are left
pub products_begin : {X : Type 0} (V : X → ℕ) (parts : List X) (first : X) (others : List X) (product : ℕ) → parts ≡ first ∷ others → product ≡ V first
    → mul product (product_all (map V (drop 0 others))) ≡ product_all (map V parts)
products_begin V parts first others product is taken = rw (is, taken) refl

-- the sum so far takes in the part at a place
pub sums_next : {X : Type 0} (V : X → ℕ) (parts : List X) (i : ℕ) (part : X) (sum all : ℕ)
    → i < length parts → part ≡ get_or parts i part → bit_xor sum (sum_all (map V (drop i parts))) ≡ all → bit_xor (bit_xor sum (V part)) (sum_all (map V (drop (i + 1) parts))) ≡ all
sums_next V parts i part sum all below is so_far =
    let e : drop i parts ≡ part ∷ drop (i + 1) parts = drop-cons parts i part below ∙ rw (← is, add-one) refl in
    xor_assoc sum (V part) (sum_all (map V (drop (i + 1) parts))) ∙ subst (λ ps. bit_xor sum (sum_all (map V ps)) ≡ all) e so_far

-- no part is left
pub sums_done : {X : Type 0} (V : X → ℕ) (parts : List X) (i sum all : ℕ) → length parts ≤ i → bit_xor sum (sum_all (map V (drop i parts))) ≡ all → sum ≡ all
sums_done V parts i sum all past so_far =
    sym (xor_zero_r sum) ∙ subst (λ ps. bit_xor sum (sum_all (map V ps)) ≡ all) (drop_all i parts past) so_far
