use Rattle.std.proofs.Common.{sym, arith}
use Rattle.std.proofs.lemmas.Nat.{xor_lt}
use Rattle.poly_laws.proofs.Interpolating.{basis-zero}
use Rattle.poly_forms.proofs.Interpolating.{basis_more-same, basis_more-other}
use Rattle.poly_forms.proofs.interpolation.basis_at.Goals.{then-i-j, else-i-j}
use Rattle.poly_forms.proofs.interpolation.basis_at.Goals as goal

pub loop-j-init : goal.loop-j-init
loop-j-init c = sym (basis-zero c.args.i c.args.x)

pub loop-j-preserved : goal.loop-j-preserved
loop-j-preserved c = elim c.if-i-j.branch [
  | then-i-j w ↦ let e = basis_more-other c.args.i c.loop-j.j c.args.x w.if-i-j.true in cc
  | else-i-j w ↦ let e = basis_more-same c.args.i c.loop-j.j c.args.x w.if-i-j.false in cc
]

pub inverse_of-requires-clause-small : goal.inverse_of-requires-clause-small
inverse_of-requires-clause-small c =
    let few = c.requires.few in
    let below = c.loop-j-test.true in
    xor_lt 4 c.args.i c.loop-j.j c.requires.within (omega arith)
