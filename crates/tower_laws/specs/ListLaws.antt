-- The laws of lists of numbers, as statements.
-- Source: docs/LAWS.md, "tower_laws: the field".
use Rattle.std.specs.Prelude.{◌≡◌, ℕ, List, ◌++◌, map, get_or, bit_xor}
use Rattle.tower_laws.specs.Tower.{Fits, mul}
use Rattle.tower_laws.specs.Lists.{sum_all, product_all, sums, AllFit}

-- sums and products of joined lists, and the numbers of lists that are made place by place
pub record AreSumsAndProducts : Type 0 where
  pub sum_of_joined : (xs ys : List ℕ) → sum_all (xs ++ ys) ≡ bit_xor (sum_all xs) (sum_all ys)
  pub product_of_joined : (xs ys : List ℕ) → product_all (xs ++ ys) ≡ mul (product_all xs) (product_all ys)
  pub sums_at : (xs ys : List ℕ) (k : ℕ) → get_or (sums xs ys) k 0 ≡ bit_xor (get_or xs k 0) (get_or ys k 0)
  pub multiples_at : (c k : ℕ) (xs : List ℕ) → get_or (map (mul c) xs) k 0 ≡ mul c (get_or xs k 0)

-- what is made from numbers of a level stays in the level
pub record StayInLevel : Type 0 where
  pub sum : (i : ℕ) (xs : List ℕ) → AllFit i xs → Fits i (sum_all xs)
  pub product : (i : ℕ) (xs : List ℕ) → AllFit i xs → Fits i (product_all xs)
  pub sums : (i : ℕ) (xs ys : List ℕ) → AllFit i xs → AllFit i ys → AllFit i (sums xs ys)
  pub multiples : (i c : ℕ) (xs : List ℕ) → Fits i c → AllFit i xs → AllFit i (map (mul c) xs)
