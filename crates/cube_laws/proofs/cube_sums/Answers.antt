use Rattle.cube_laws.proofs.Positions.{cube_sum_is}
use Rattle.cube_laws.proofs.cube_sums.Goals as goal

pub returns : goal.returns
returns c = cube_sum_is
