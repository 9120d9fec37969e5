-- How many members of a type have a property.
-- Source: docs/LAWS.md, "counting_laws: counting and multisets".
use Rattle.std.specs.Prelude.{◌≢◌, ◌≤◌, ℕ, List, [], ◌∷◌, length}
use Rattle.std.specs.List.{AllByRecursion}

-- no member of the list stands in it twice
abbrev pub Distinct : {X : Type 0} → List X → Type 0
Distinct [] = Unit {0}
Distinct (x ∷ xs) = AllByRecursion (λ y. y ≢ x) xs × Distinct xs

-- every list of distinct members with the property has at most k members
abbrev pub AtMost : {X : Type 0} → ℕ → (X → Type 0) → Type 0
AtMost {X} k P = (xs : List X) → Distinct xs → AllByRecursion P xs → length xs ≤ k
