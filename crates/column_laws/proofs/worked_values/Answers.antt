use Rattle.std.proofs.Common.{refl}
use Rattle.tower_laws.specs.Tower.{mul, product, level, level_from, generator}
use Rattle.column_laws.proofs.worked_values.Goals as goal

pub returns : goal.returns
unfolding mul product level level_from generator
returns c = record { generators_are = refl; basis_is = refl; linear_is = refl; projected_is = refl; packed_is = refl; placed_is = refl }
