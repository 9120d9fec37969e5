use Rattle.std.proofs.Common.{◌-◌, length, arith}
use Rattle.poly_laws.proofs.Interpolating.{at_point, at_poly, through_values}
use Rattle.poly_laws.proofs.values_tell_the_polynomial.Goals as goal

pub returns : goal.returns
returns c = record {
  through = at_point;
  degree = λ values l. at_poly (length values - 1) values (omega arith);
  only = λ d f values l p h. through_values {f = f} d p values (omega arith) (λ k b. h k (omega arith));
}
