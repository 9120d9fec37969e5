use Rattle.cube_laws.proofs.Draws.{coordinate}
use Rattle.cube_laws.proofs.folds_differ.Goals as goal

pub returns : goal.returns
returns c = coordinate
