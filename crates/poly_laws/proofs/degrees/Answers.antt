use Rattle.poly_laws.proofs.Polynomials.{sum_poly, product_poly}
use Rattle.poly_laws.proofs.degrees.Goals as goal

pub returns : goal.returns
returns c = record { sum = λ d f g. sum_poly {f = f} {g = g} d; product = λ d e f g. product_poly {f = f} {g = g} d e }
