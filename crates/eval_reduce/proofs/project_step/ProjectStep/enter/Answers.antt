use Rattle.std.proofs.Common.{◌+◌, ◌≤◌, length, vec_capacity, Vec, Global, sym, ◌∙◌, ap, subst, arith, length-append}
use Rattle.std.proofs.lemmas.Grind.{common_steps}
use Rattle.tower_field.specs.declared.level7.B128.{B128}
use Rattle.cube_laws.specs.Extension.{bits_of}
use Rattle.cube_laws.proofs.Folding.{length-bits_of}
use Rattle.eval_reduce.specs.Project.{ProjectTakes}
use Rattle.eval_reduce.proofs.VirtualSteps.{not_closed}
use Rattle.eval_reduce.proofs.project_step.ProjectStep.enter.Goals as goal

pub unreachable-requires : goal.unreachable-requires
unreachable-requires c =
    let w = c.self.inside in
    let open_yet = not_closed c.args.claim.now w.projection w.closed (subst (ProjectTakes c.args.claim.now) (sym c.self.view_is) c.requires) in
    let empty = c.self.invariant.empty open_yet.0 in
    let room = c.self.invariant.room open_yet.0 in
    let long = open_yet.1 in
    let bits = length-bits_of w.projection.log w.projection.index in
    let taken = c.replace-point.ensures.value in
    let before = ap (λ (v : Vec B128 Global). length v.items) taken in
    let none = ap length empty in
    let joined = ap length c.append_bits.ensures.bits ∙ length-append c.replace-point.result.items (bits_of w.projection.log w.projection.index) in
    let capacity = c.append_bits.ensures.capacity in
    let kept = ap (λ (v : Vec B128 Global). vec_capacity v) taken in
    let slice = ap length c.as_slice.ensures in
    let fits : length c.append_bits.new.point.items + length c.as_slice.result.now ≤ vec_capacity c.append_bits.new.point = omega arith in
    grind (arith, common_steps)
