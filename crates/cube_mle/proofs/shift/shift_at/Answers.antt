use Rattle.std.proofs.Common.{◌≡◌, ◌∙◌, length, bit_xor, sym, ap, subst}
use Rattle.shift_laws.specs.Shifts.{carried, pairs_at, shift_at}
use Rattle.shift_laws.proofs.Carries.{up_is, down_is}
use Rattle.cube_mle.specs.Moving.{shift_of}
use Rattle.cube_mle.specs.declared.shift.ShiftKind.{ShiftKind}
use Rattle.cube_mle.proofs.Adding.{round_within}
use Rattle.cube_mle.proofs.shift.shift_at.Goals as goal

pub returns-in-Shl : goal.returns-in-Shl
returns-in-Shl c =
    let b = length c.args.x.now in
    subst (λ (k : ShiftKind). c.add_bits.result.without ≡ shift_at (shift_of k) b c.args.offset c.args.y.now c.args.x.now) (sym c.in-Shl.is)
    (c.add_bits.ensures.without ∙ sym (up_is b c.args.offset c.args.y.now c.args.x.now))

pub returns-in-Shr : goal.returns-in-Shr
returns-in-Shr c =
    let b = length c.args.x.now in
    subst (λ (k : ShiftKind). c.add_bits-in-Shr.result.without ≡ shift_at (shift_of k) b c.args.offset c.args.y.now c.args.x.now) (sym c.in-Shr.is)
    (c.add_bits-in-Shr.ensures.without ∙ ap (λ n. pairs_at n (carried n c.args.offset 0 0) c.args.x.now c.args.y.now) c.requires.equal ∙ sym (down_is b c.args.offset c.args.y.now c.args.x.now))

pub returns-in-Rol : goal.returns-in-Rol
returns-in-Rol c =
    let b = length c.args.x.now in
    subst (λ (k : ShiftKind). c.add.result ≡ shift_at (shift_of k) b c.args.offset c.args.y.now c.args.x.now) (sym c.in-Rol.is)
    (c.add.ensures ∙ (λ i. bit_xor (c.add_bits-carries.ensures.without i) (c.add_bits-carries.ensures.with i)) ∙ sym (round_within b c.args.offset c.args.y.now c.args.x.now c.requires.within))
