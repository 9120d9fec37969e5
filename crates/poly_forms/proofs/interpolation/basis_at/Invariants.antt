use Rattle.std.proofs.Common.{◌≡◌}
use Rattle.poly_laws.specs.Interpolation.{basis}
use Rattle.poly_forms.proofs.interpolation.basis_at.Given as goal

abbrev pub invariant-loop-j : goal.invariant-loop-j
invariant-loop-j l = l.product ≡ basis l.j l.i l.x
