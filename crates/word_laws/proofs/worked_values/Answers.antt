use Rattle.std.proofs.Common.{refl}
use Rattle.tower_laws.specs.Tower.{mul, product, level, level_from, generator}
use Rattle.tower_laws.specs.Inverse.{inverse, inverse_at}
use Rattle.word_laws.specs.CodeWord.{vanish, hat}
use Rattle.word_laws.proofs.worked_values.Goals as goal

pub returns : goal.returns
unfolding mul product level level_from generator inverse inverse_at vanish hat
returns c = record { word_is = refl; fold_is = refl }
