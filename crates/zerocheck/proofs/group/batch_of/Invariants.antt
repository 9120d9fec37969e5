use Rattle.std.proofs.Common.{◌≡◌, ◌≤◌, length, drop, map}
use Rattle.cube_laws.specs.Form.{value}
use Rattle.poly_laws.specs.Polynomial.{horner}
use Rattle.poly_forms.specs.Form.{form_of}
use Rattle.zerocheck.proofs.group.batch_of.Given as goal

abbrev pub invariant-loop-i : goal.invariant-loop-i
invariant-loop-i l = (l.i ≤ length l.forms) × (l.sum ≡ horner (map (λ form. value form l.values) (map form_of (drop l.i l.forms))) l.beta)

abbrev pub decreases-loop-i : goal.decreases-loop-i
decreases-loop-i l = l.i
