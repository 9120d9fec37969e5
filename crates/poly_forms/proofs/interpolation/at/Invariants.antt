use Rattle.std.proofs.Common.{◌≡◌, bit_xor, drop, length}
use Rattle.poly_laws.specs.Interpolation.{at, interpolated}
use Rattle.poly_forms.proofs.interpolation.at.Given as goal

abbrev pub invariant-loop-i : goal.invariant-loop-i
invariant-loop-i l = bit_xor l.sum (interpolated (length l.values) l.i (drop l.i l.values) l.x) ≡ at l.values l.x
