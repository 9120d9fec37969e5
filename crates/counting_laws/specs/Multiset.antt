-- Lists as multisets, by how often each member stands in them.
-- Source: docs/LAWS.md, "counting_laws: counting and multisets".
use Rattle.std.specs.Prelude.{◌≡◌, ℕ, suc, List, [], ◌∷◌, Bool, true, false, map, cond, ◌==◌}
use Rattle.tower_laws.specs.Lists.{product_all}

-- how often x stands in a list, by a test of equality
abbrev pub count : {X : Type 0} → (X → X → Bool) → X → List X → ℕ
count e x [] = 0
count e x (y ∷ ys) = cond (e x y) (suc (count e x ys)) (count e x ys)

-- the same members, each as often
abbrev pub Same : {X : Type 0} → (X → X → Bool) → List X → List X → Type 0
Same {X} e xs ys = (x : X) → count e x xs ≡ count e x ys

-- a test of equality of numbers
abbrev pub same_number : ℕ → ℕ → Bool
same_number x y = x == y

-- a test of equality of tuples
abbrev pub same_tuple : List ℕ → List ℕ → Bool
same_tuple [] [] = true
same_tuple [] (y ∷ ys) = false
same_tuple (x ∷ xs) [] = false
same_tuple (x ∷ xs) (y ∷ ys) = cond (x == y) (same_tuple xs ys) false

-- the product of f over the members of a list
abbrev pub product_by : {X : Type 0} → (X → ℕ) → List X → ℕ
product_by f xs = product_all (map f xs)
