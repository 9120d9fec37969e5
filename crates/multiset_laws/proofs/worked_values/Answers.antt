use Rattle.std.proofs.Common.{refl}
use Rattle.tower_laws.specs.Tower.{mul, product, level, level_from, generator}
use Rattle.multiset_laws.proofs.worked_values.Goals as goal

pub returns : goal.returns
unfolding mul product level level_from generator
returns c = record { fingerprint_is = refl; taken_leaf = refl; left_leaf = refl }
