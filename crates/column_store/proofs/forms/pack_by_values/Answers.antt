use Rattle.std.proofs.Common.{◌≡◌, ℕ, ◌+◌, ◌*◌, ◌%◌, ◌^◌, get_or, refl, ap, ◌∙◌, arith}
use Rattle.std.proofs.lemmas.Nat.{pow_pos, one_shl}
use Rattle.std.specs.Int.Bits.{xor_comm}
use Rattle.tower_laws.specs.Tower.{mul}
use Rattle.cube_laws.specs.Sums.{sum_to}
use Rattle.cube_laws.proofs.Positions.{sum_to-more}
use Rattle.column_store.proofs.Pieces.{part_below, part_shift, no_wrap}
use Rattle.column_store.proofs.forms.pack_by_values.Goals as goal

pub overflow_shl-u-in-loop-u : goal.overflow_shl-u-in-loop-u
overflow_shl-u-in-loop-u c =
    let b = part_below c.args.level c.args.log c.loop-u.u _ c.requires.fits refl c.loop-u-test.true in
    let s = part_shift c.args.level c.args.log c.loop-u.u c.requires.fits b.0 in
    omega (arith, s.0, b.1, pow_pos c.args.level)

pub loop-u-preserved : goal.loop-u-preserved
loop-u-preserved c =
    let u = c.loop-u.u in
    let f : ℕ → ℕ = λ u. mul (2 ^ (u * 2 ^ c.args.level)) (get_or c.args.source.now.values (c.args.position * 2 ^ c.args.log + u) 0) in
    let b = part_below c.args.level c.args.log u _ c.requires.fits refl c.loop-u-test.true in
    let s = part_shift c.args.level c.args.log u c.requires.fits b.0 in
    let basis : c.element-basis.result ≡ 2 ^ (u * 2 ^ c.args.level) = c.element-basis.ensures ∙ ap (λ n. 1 * 2 ^ n % 340282366920938463463374607431768211456) s.0 ∙ s.1 in
    let place = no_wrap c.args.position c.args.log c.requires.small (omega (arith, c.requires.fits)) in
    let value : c.element.result ≡ get_or c.args.source.now.values (c.args.position * 2 ^ c.args.log + u) 0 =
    c.element.ensures ∙ c.get.ensures ∙ ap (λ w. get_or c.args.source.now.values (w + u) 0) place in
    sum_to-more u c.loop-u.sum c.mul.result c.add-sum.result f c.loop-u.invariant (c.mul.ensures ∙ (λ i. mul (basis i) (value i)))
    (c.add-sum.ensures ∙ xor_comm c.loop-u.sum c.mul.result)

pub returns : goal.returns
returns c =
    let f : ℕ → ℕ = λ u. mul (2 ^ (u * 2 ^ c.args.level)) (get_or c.args.source.now.values (c.args.position * 2 ^ c.args.log + u) 0) in
    let e = one_shl c.args.log 64 (omega (arith, c.requires.fits)) in
    let done : c.loop-u.u ≡ 2 ^ c.args.log = omega (arith, c.loop-u.auto.u-end, c.loop-u-test.false, e) in
    c.number.ensures.value ∙ c.loop-u.invariant ∙ ap (λ n. sum_to n f) done
