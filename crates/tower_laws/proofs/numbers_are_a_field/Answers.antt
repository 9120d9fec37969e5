use Rattle.std.specs.Int.Bits.{xor_assoc, xor_self, xor_zero_l}
use Rattle.std.proofs.lemmas.Nat.{xor_comm}
use Rattle.tower_laws.proofs.Levels.{field_assoc, field_comm, field_zero, field_one, field_add}
use Rattle.tower_laws.proofs.Inverses.{times_inverse, inverse_zero, inverse_unique, product_zero_cases}
use Rattle.tower_laws.proofs.numbers_are_a_field.Goals as goal

pub returns : goal.returns
returns c = record {
  sum_is_associative = xor_assoc;
  sum_is_commutative = xor_comm;
  sum_with_zero = xor_zero_l;
  sum_with_itself = xor_self;
  product_is_associative = field_assoc;
  product_is_commutative = field_comm;
  product_with_zero = field_zero;
  product_with_one = field_one;
  product_of_sum = field_add;
  product_with_inverse = times_inverse;
  inverse_of_zero = inverse_zero;
  inverse_is_unique = inverse_unique;
  no_divisors_of_zero = product_zero_cases;
}
