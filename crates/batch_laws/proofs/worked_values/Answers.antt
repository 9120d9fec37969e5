use Rattle.std.proofs.Common.{refl}
use Rattle.tower_laws.specs.Tower.{mul, product, level, level_from, generator}
use Rattle.cube_laws.specs.SumClaim.{cube_sum}
use Rattle.batch_laws.proofs.worked_values.Goals as goal

pub returns : goal.returns
unfolding mul product level level_from generator cube_sum
returns c = record { batch_is = refl; form_is = refl; pair_is = refl; eq_sum_is = refl }
