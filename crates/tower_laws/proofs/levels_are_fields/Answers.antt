use Rattle.std.proofs.Common.{◌^◌}
use Rattle.std.proofs.lemmas.Nat.{xor_lt}
use Rattle.tower_laws.proofs.Levels.{mul_lt, product_mul}
use Rattle.tower_laws.proofs.Inverses.{inverse_lt}
use Rattle.tower_laws.proofs.levels_are_fields.Goals as goal

pub returns : goal.returns
returns c = record {
  sum_fits = λ i a b. xor_lt (2 ^ i) a b;
  product_fits = mul_lt;
  inverse_fits = inverse_lt;
  product_at_level = product_mul;
}
