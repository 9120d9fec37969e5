-- Sums and products of the numbers of a list, and of two lists place by place.
-- Source: docs/LAWS.md, "tower_laws: the field".
use Rattle.std.specs.Prelude.{ℕ, List, [], ◌∷◌, bit_xor}
use Rattle.std.specs.List.{AllByRecursion}
use Rattle.tower_laws.specs.Tower.{Fits, mul}

-- the sum of all numbers of a list
abbrev pub sum_all : List ℕ → ℕ
sum_all [] = 0
sum_all (x ∷ xs) = bit_xor x (sum_all xs)

-- the product of all numbers of a list
abbrev pub product_all : List ℕ → ℕ
product_all [] = 1
product_all (x ∷ xs) = mul x (product_all xs)

-- the sums of the numbers at one place of two lists, a missing number being 0
abbrev pub sums : List ℕ → List ℕ → List ℕ
sums [] ys = ys
sums (x ∷ xs) [] = x ∷ xs
sums (x ∷ xs) (y ∷ ys) = bit_xor x y ∷ sums xs ys

-- all numbers of a list are elements of level i
abbrev pub AllFit : ℕ → List ℕ → Type 0
AllFit i xs = AllByRecursion (Fits i) xs
