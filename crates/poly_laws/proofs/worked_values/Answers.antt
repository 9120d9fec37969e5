use Rattle.std.proofs.Common.{refl}
use Rattle.tower_laws.specs.Tower.{mul, product, level, level_from, generator}
use Rattle.tower_laws.specs.Inverse.{inverse, inverse_at}
use Rattle.poly_laws.specs.Interpolation.{at, interpolated, basis}
use Rattle.poly_laws.proofs.worked_values.Goals as goal

pub returns : goal.returns
unfolding mul product level level_from generator inverse inverse_at at interpolated basis
returns c = record { from_coefficients = refl; from_values = refl }
