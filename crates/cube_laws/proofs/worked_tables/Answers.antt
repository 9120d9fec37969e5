use Rattle.std.proofs.Common.{refl}
use Rattle.tower_laws.specs.Tower.{mul, product, level, level_from, generator}
use Rattle.cube_laws.proofs.worked_tables.Goals as goal

pub returns : goal.returns
unfolding mul product level level_from generator
returns c = record { eq_of_numbers = refl; eq_of_points = refl; sums_are = refl; product_is = refl; fold_is = refl }
