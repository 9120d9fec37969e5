-- The laws of sum and product, as statements over all numbers.
-- Source: docs/LAWS.md, "tower_laws: the field".
use Rattle.std.specs.Prelude.{◌≡◌, ◌≢◌, ℕ, ◌⊎◌, bit_xor}
use Rattle.tower_laws.specs.Tower.{Fits, mul, product, generator}
use Rattle.tower_laws.specs.Inverse.{inverse}

-- all numbers are a field under `bit_xor` and `mul`, in which each is its own negative
pub record IsField : Type 0 where
  pub sum_is_associative : (a b c : ℕ) → bit_xor (bit_xor a b) c ≡ bit_xor a (bit_xor b c)
  pub sum_is_commutative : (a b : ℕ) → bit_xor a b ≡ bit_xor b a
  pub sum_with_zero : (a : ℕ) → bit_xor 0 a ≡ a
  pub sum_with_itself : (a : ℕ) → bit_xor a a ≡ 0
  pub product_is_associative : (a b c : ℕ) → mul (mul a b) c ≡ mul a (mul b c)
  pub product_is_commutative : (a b : ℕ) → mul a b ≡ mul b a
  pub product_with_zero : (a : ℕ) → mul 0 a ≡ 0
  pub product_with_one : (a : ℕ) → mul 1 a ≡ a
  pub product_of_sum : (a b c : ℕ) → mul (bit_xor a b) c ≡ bit_xor (mul a c) (mul b c)
  pub product_with_inverse : (a : ℕ) → a ≢ 0 → mul a (inverse a) ≡ 1
  pub inverse_of_zero : inverse 0 ≡ 0
  pub inverse_is_unique : (a b : ℕ) → mul a b ≡ 1 → b ≡ inverse a
  pub no_divisors_of_zero : (a b : ℕ) → mul a b ≡ 0 → (a ≡ 0) ⊎ (b ≡ 0)

-- each level is a field of its own, whose sum, product and inverse are those of all numbers
pub record AreFields : Type 0 where
  pub sum_fits : (i a b : ℕ) → Fits i a → Fits i b → Fits i (bit_xor a b)
  pub product_fits : (i a b : ℕ) → Fits i a → Fits i b → Fits i (mul a b)
  pub inverse_fits : (i a : ℕ) → Fits i a → Fits i (inverse a)
  pub product_at_level : (i a b : ℕ) → Fits i a → Fits i b → product i a b ≡ mul a b

-- with the last generator g of a level, y² + y = g and z² + g · z + 1 = 0 have no root in the level
pub record HaveNoRoots : Type 0 where
  pub no_root_of_trace : (i y : ℕ) → Fits i y → bit_xor (mul y y) y ≢ generator i
  pub no_root_of_norm : (i z : ℕ) → Fits i z → bit_xor (mul z z) (bit_xor (mul (generator i) z) 1) ≢ 0
