use Rattle.cube_laws.proofs.EqPoints.{eq_is, extension_is, eq_points-comm, eq_points-append, weights_extend, weights_tabulated}
use Rattle.cube_laws.proofs.eq_of_points.Goals as goal

pub returns : goal.returns
returns c = record { corner = eq_is; extension_is = extension_is; symmetric = eq_points-comm; joined = eq_points-append; weights_are = weights_tabulated; table = weights_extend }
