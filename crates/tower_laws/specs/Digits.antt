-- Numbers as lists of digits, the lowest first.
-- Source: docs/LAWS.md, "tower_laws: the field".
use Rattle.std.specs.Prelude.{ℕ, zero, suc, ◌+◌, ◌*◌, ◌/◌, ◌%◌, List, [], ◌∷◌}

-- the lowest digits of a number, n of them
abbrev pub digits : ℕ → ℕ → ℕ → List ℕ
digits base zero x = []
digits base (suc n) x = x % base ∷ digits base n (x / base)

-- the number that digits spell
abbrev pub from_digits : ℕ → List ℕ → ℕ
from_digits base [] = 0
from_digits base (d ∷ ds) = d + base * from_digits base ds
