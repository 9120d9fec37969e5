use Rattle.std.proofs.Common.{refl}
use Rattle.tower_laws.specs.Tower.{mul, product, level, level_from, generator}
use Rattle.tensor_laws.proofs.worked_values.Goals as goal

pub returns : goal.returns
unfolding mul product level level_from generator
returns c = record { column_is = refl; row_is = refl; across_is = refl; packed_is = refl; combined_is = refl; tensor_is = refl }
