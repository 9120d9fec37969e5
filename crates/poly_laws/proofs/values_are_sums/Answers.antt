use Rattle.poly_laws.proofs.Terms.{value_is_sum}
use Rattle.poly_laws.proofs.values_are_sums.Goals as goal

pub returns : goal.returns
returns c = value_is_sum
