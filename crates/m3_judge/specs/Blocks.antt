-- Values at several positions at once.
-- Source: docs/ARCHITECTURE.md, "Within m3_judge".
use Rattle.std.specs.Prelude.{◌≡◌, ℕ, ◌+◌, ◌*◌, ◌^◌, ◌<◌, ◌≤◌, List, length, get_or}
use Rattle.std.specs.Borrow.{RattleType}
use Rattle.std.specs.Mem.{type_size}
use Rattle.table_shape.specs.declared.shape.ConstraintShape.{ConstraintShape}
use Rattle.m3_judge.specs.Judging.{value_of}

-- a block of elements of a type fits into memory
abbrev pub BlockFits : RattleType → Type 0
BlockFits R = 16 * type_size R < 2 ^ 63

-- a block of elements with these numbers, position by position
abbrev pub HasNumbers : {E : Type 0} → (E → ℕ) → List E → (ℕ → ℕ) → Type 0
HasNumbers {E = E} number block of = (length block ≡ 16) × ((i : ℕ) (d : E) → i < 16 → number (get_or block i d) ≡ of i)

-- a constraint is 0 at each index of each row from one on, n of them
abbrev pub IsZeroBetween : List (List ℕ) → ConstraintShape → ℕ → ℕ → Type 0
IsZeroBetween lists constraint row n = (r index : ℕ) → row ≤ r → r < row + n → index < 2 ^ constraint.log_values → value_of lists constraint r index ≡ 0
