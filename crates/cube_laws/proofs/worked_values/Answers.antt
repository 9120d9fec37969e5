use Rattle.std.proofs.Common.{refl}
use Rattle.tower_laws.specs.Tower.{mul, product, level, level_from, generator}
use Rattle.cube_laws.proofs.worked_values.Goals as goal

pub returns : goal.returns
unfolding mul product level level_from generator
returns c = record { weights_are = refl; eq_is = refl; extension_is = refl }
