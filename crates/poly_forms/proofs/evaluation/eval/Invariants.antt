use Rattle.std.proofs.Common.{◌≡◌, map, reverse}
use Rattle.poly_laws.specs.Polynomial.{horner}
use Rattle.poly_forms.proofs.evaluation.eval.Given as goal

abbrev pub invariant-loop-coefficient : goal.invariant-loop-coefficient
invariant-loop-coefficient l = l.value ≡ horner (reverse (map (λ r. r.now) l.yielded)) l.x
