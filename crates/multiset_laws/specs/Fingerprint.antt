-- Tuples of numbers as single numbers, by two challenges.
-- Source: docs/LAWS.md, "multiset_laws: products that tell multisets apart".
use Rattle.std.specs.Prelude.{ℕ, List, bit_xor}
use Rattle.tower_laws.specs.Tower.{mul}
use Rattle.poly_laws.specs.Polynomial.{horner}

-- the tuple (t_0, t_1, ..) as g plus the sum of t_j · a ^ j
abbrev pub fingerprint : ℕ → ℕ → List ℕ → ℕ
fingerprint a g t = bit_xor g (horner t a)

-- the factor of a row: its value v where both s and the selector are 1, and 1 where one of them is 0
abbrev pub leaf : ℕ → ℕ → ℕ → ℕ
leaf s selector v = bit_xor (mul (mul s selector) (bit_xor v 1)) 1
