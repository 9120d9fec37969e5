use Rattle.std.proofs.Common.{◌∙◌, ap, sym, subst, arith}
use Rattle.ring_switch.specs.declared.switch_walk.Stage.{Stage}
use Rattle.ring_switch.specs.Switching.{Switching, switching_draw}
use Rattle.ring_switch.specs.SwitchFields.{StageFits, switching_of}
use Rattle.ring_switch.proofs.SwitchSteps.{all_set, bind_due, length-drawn, more_fits, not_before}
use Rattle.ring_switch.proofs.switch_walk.SwitchWalkSteps.draw.Goals as goal

pub invariant_of-self : goal.invariant_of-self
invariant_of-self c =
    let w = c.self.inside in
    record {
      large = c.self.invariant.large;
      few = c.self.invariant.few;
      seven = length-drawn w.switched c.set.new.self _ c.args.c c.set.ensures c.self.invariant.seven;
      room = c.self.invariant.room;
      wide = λ h. absurd (not_before w.stage c.in-Setting.is h);
      stage = more_fits w.log_bits w.value w.left w.point.items w.rows.items c.fold_low.new.table.items w.switched c.set.new.self w.rounds w.closed w.stage c.args.c c.in-Setting.is c.set.ensures c.fold_low.ensures c.if-self-gt0.true c.self.invariant.stage;
    }

pub bind-requires : goal.bind-requires
bind-requires c =
    let w = c.self.inside in
    bind_due w.stage w.log_bits w.point.items w.value w.switched w.rows.items w.left w.rounds w.closed _ c.self.view_is c.in-Adding.is c.requires

pub returns-else-self-gt0 : goal.returns-else-self-gt0
returns-else-self-gt0 c =
    let w = c.self.inside in
    let t = c.if-self-gt0.false in
    let k = subst (λ (g : Stage). StageFits g w.log_bits w.point.items w.value w.switched w.rows.items w.left w.rounds w.closed) c.in-Setting.is c.self.invariant.stage in
    all_set w.log_bits w.value w.left w.point.items w.rows.items c.fold_low.new.table.items w.switched c.set.new.self w.rounds c.enter.new.self w.closed c.args.c c.index.result.now c.set.ensures c.fold_low.ensures c.self.invariant.seven (omega arith)
    c.index.ensures c.enter.ensures k
    ∙ ap (λ (m : Switching). switching_draw m c.args.c) (sym (ap (λ (g : Stage). switching_of g w.log_bits w.point.items w.value w.switched w.rows.items w.left w.rounds w.closed) c.in-Setting.is) ∙ c.self.view_is)
