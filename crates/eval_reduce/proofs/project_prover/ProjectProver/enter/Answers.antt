use Rattle.std.proofs.Common.{◌≡◌, ◌+◌, ◌≤◌, ◌^◌, ◌++◌, length, vec_capacity, Vec, Global, ◌∙◌, ap, arith, length-append}
use Rattle.std.proofs.lemmas.Grind.{common_steps}
use Rattle.tower_field.specs.declared.level7.B128.{B128}
use Rattle.cube_laws.specs.Extension.{bits_of}
use Rattle.cube_laws.proofs.Folding.{length-bits_of}
use Rattle.eval_reduce.proofs.project_prover.ProjectProver.enter.Goals as goal

pub unreachable-requires : goal.unreachable-requires
unreachable-requires c =
    let w = c.args.self.now in
    let new = c.requires.new in
    let room = new.room in
    let long = c.requires.long in
    let bits = length-bits_of w.projection.log w.projection.index in
    let taken = c.replace-point.ensures.value in
    let before = ap (λ (v : Vec B128 Global). length v.items) taken in
    let none = ap length new.empty in
    let joined = ap length c.append_bits.ensures.bits ∙ length-append c.replace-point.result.items (bits_of w.projection.log w.projection.index) in
    let capacity = c.append_bits.ensures.capacity in
    let kept = ap (λ (v : Vec B128 Global). vec_capacity v) taken in
    let slice = ap length c.as_slice.ensures in
    let fits : length c.append_bits.new.point.items + length c.as_slice.result.now ≤ vec_capacity c.append_bits.new.point = omega arith in
    grind (arith, common_steps)

pub fold_all-value-requires : goal.fold_all-value-requires
fold_all-value-requires c =
    let w = c.args.self.now in
    let new = c.requires.new in
    let long = c.requires.long in
    let bits = length-bits_of w.projection.log w.projection.index in
    let taken = c.replace-point.ensures.value in
    let before = ap (λ (v : Vec B128 Global). length v.items) taken in
    let none = ap length new.empty in
    let joined = ap length c.append_bits.ensures.bits ∙ length-append c.replace-point.result.items (bits_of w.projection.log w.projection.index) in
    let slice = ap length c.as_slice.ensures in
    let made : c.extend_from_slice.new.self.items ≡ c.append_bits.new.point.items ++ c.as_slice.result.now = grind (arith, common_steps) in
    let whole = ap length made ∙ length-append c.append_bits.new.point.items c.as_slice.result.now in
    let at = ap length c.as_slice-2.ensures.value in
    let vars : w.projection.log + w.projection.vars ≡ length c.as_slice-2.result.now = omega arith in
    new.whole ∙ ap (λ n. 2 ^ n) vars
