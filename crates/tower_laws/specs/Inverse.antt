-- Inverses, as a function of all numbers.
-- Source: docs/LAWS.md, "tower_laws: the field".
use Rattle.std.specs.Prelude.{ℕ, zero, suc, ◌^◌, bit_xor}
use Rattle.tower_laws.specs.Tower.{mul, low, high, generator, level}

-- the norm of an element of level i + 1, an element of level i
abbrev pub norm_at : ℕ → ℕ → ℕ
norm_at i a = bit_xor (mul (low i a) (low i a)) (bit_xor (mul (mul (low i a) (high i a)) (generator i)) (mul (high i a) (high i a)))

-- the element whose product with a is the norm of a
abbrev pub conjugate_at : ℕ → ℕ → ℕ
conjugate_at i a = bit_xor (bit_xor (low i a) (mul (high i a) (generator i))) (mul (high i a) (2 ^ (2 ^ i)))

-- the inverse of an element of level i that is not 0
unfoldable pub inverse_at : ℕ → ℕ → ℕ
inverse_at zero a = a
inverse_at (suc i) a = mul (inverse_at i (norm_at i a)) (conjugate_at i a)

-- the inverse of a number that is not 0, and 0 for 0
unfoldable pub inverse : ℕ → ℕ
inverse a = inverse_at (level a) a
