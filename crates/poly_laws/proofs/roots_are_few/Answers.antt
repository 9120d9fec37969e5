use Rattle.std.proofs.Common.{◌≡◌, ◌-◌, length, arith}
use Rattle.counting_laws.proofs.Bounds.{at_most_from}
use Rattle.poly_laws.specs.Polynomial.{horner}
use Rattle.poly_laws.proofs.RootBound.{zero_by_roots}
use Rattle.poly_laws.proofs.roots_are_few.Goals as goal

pub returns : goal.returns
returns c = λ cs apart. at_most_from (λ x. horner cs x ≡ 0) (length cs - 1) (λ xs d h l. apart (zero_by_roots xs cs d h (omega arith)))
