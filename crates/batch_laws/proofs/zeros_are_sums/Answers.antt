use Rattle.batch_laws.proofs.Zeros.{coordinate_zero, zero_to_sum, eq_sum_is, eq_sum_final, degree-eq_sum}
use Rattle.batch_laws.proofs.zeros_are_sums.Goals as goal

pub returns : goal.returns
returns c = record {
  zeros = record { coordinate = coordinate_zero; set = zero_to_sum };
  sums = record { sum = eq_sum_is; final = eq_sum_final; degree_is = degree-eq_sum };
}
