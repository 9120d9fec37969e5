-- Sums and products of the elements that are narrower than a byte.
use Rattle.std.proofs.Common.{◌≡◌, ℕ, zero, suc, ◌^◌, ◌<◌, bit_and, bit_xor, refl, sym, ◌∙◌, subst, arith, ◌≢◌}
use Rattle.std.proofs.lemmas.Nat.{xor_lt}
use Rattle.tower_laws.specs.Tower.{mul, product}
use Rattle.tower_laws.proofs.Levels.{product_mul, mul_lt, field_one}
use Rattle.tower_laws.specs.Inverse.{inverse}
use Rattle.tower_laws.proofs.Inverses.{inverse_lt, inverse_unique}

pub sum_fits : (i n a b : ℕ) → n ≡ bit_xor a b → a < 2 ^ (2 ^ i) → b < 2 ^ (2 ^ i) → n < 2 ^ (2 ^ i)
sum_fits i n a b e h k = subst (λ w. w < 2 ^ (2 ^ i)) (sym e) (xor_lt (2 ^ i) a b h k)

pub product_fits : (i n a b : ℕ) → n ≡ mul a b → a < 2 ^ (2 ^ i) → b < 2 ^ (2 ^ i) → n < 2 ^ (2 ^ i)
product_fits i n a b e h k = subst (λ w. w < 2 ^ (2 ^ i)) (sym e) (mul_lt i a b h k)

product_of_bits : (a b : ℕ) → a < 2 → b < 2 → bit_and a b ≡ product 0 a b
unfolding product
product_of_bits zero b h k = omega arith
product_of_bits (suc zero) zero h k = refl
product_of_bits (suc zero) (suc zero) h k = refl
product_of_bits (suc zero) (suc (suc b)) h k = absurd (omega arith)
product_of_bits (suc (suc a)) b h k = absurd (omega arith)

-- the product of two bits is their conjunction
pub and_is : (a b : ℕ) → a < 2 → b < 2 → bit_and a b ≡ mul a b
and_is a b h k = product_of_bits a b h k ∙ product_mul 0 a b h k

pub inverse_fits : (i n a : ℕ) → n ≡ inverse a → a < 2 ^ (2 ^ i) → n < 2 ^ (2 ^ i)
inverse_fits i n a e h = subst (λ w. w < 2 ^ (2 ^ i)) (sym e) (inverse_lt i a h)

-- a bit that is not 0 is its own inverse
pub bit_inverse : (a : ℕ) → a < 2 → a ≢ 0 → a ≡ inverse a
bit_inverse zero h ne = absurd (ne refl)
bit_inverse (suc zero) h ne = inverse_unique 1 1 (field_one 1)
bit_inverse (suc (suc a)) h ne = absurd (omega arith)
