use Rattle.std.proofs.Common.{arith}
use Rattle.poly_forms.proofs.Degrees.{degree_below, has_degree, roots_by_degree}
use Rattle.poly_forms.proofs.root_count.roots_bound.Goals as goal

pub returns-clause-has_degree : goal.returns-clause-has_degree
returns-clause-has_degree c = has_degree c.args.coefficients.now c.requires.nonzero

pub returns-clause-at_most_degree : goal.returns-clause-at_most_degree
returns-clause-at_most_degree c = λ d h. roots_by_degree c.args.coefficients.now d h c.args.roots.now c.requires.distinct c.requires.are_roots

pub returns-clause-fewer_than_coefficients : goal.returns-clause-fewer_than_coefficients
returns-clause-fewer_than_coefficients c =
    let d = has_degree c.args.coefficients.now c.requires.nonzero in
    let few = roots_by_degree c.args.coefficients.now d.0 d.1 c.args.roots.now c.requires.distinct c.requires.are_roots in
    let below = degree_below c.args.coefficients.now d.0 d.1 in
    omega arith
