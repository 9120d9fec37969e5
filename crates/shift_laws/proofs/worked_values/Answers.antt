use Rattle.std.proofs.Common.{refl}
use Rattle.tower_laws.specs.Tower.{mul, product, level, level_from, generator}
use Rattle.shift_laws.proofs.worked_values.Goals as goal

pub returns : goal.returns
unfolding mul product level level_from generator
returns c = record { shifted_up = refl; shifted_down = refl; shifted_round = refl; in_blocks = refl; step_is = refl; shift_is = refl }
