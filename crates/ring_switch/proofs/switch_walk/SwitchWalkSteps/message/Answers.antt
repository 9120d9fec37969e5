use Rattle.std.proofs.Common.{◌∙◌}
use Rattle.ring_switch.proofs.SwitchSteps.{tensor_checked, where_equal, where_unequal}
use Rattle.ring_switch.proofs.switch_walk.SwitchWalkSteps.message.Goals as goal

pub returns-then-ne-clause-answer : goal.returns-then-ne-clause-answer
returns-then-ne-clause-answer c =
    let w = c.self.inside in
    tensor_checked w.stage w.log_bits w.point.items w.value w.switched w.rows.items w.left w.rounds w.closed _ c.args.values.now c.tensor_of-tensor.result c.as_slice.result.now c.value_of-left.result
    c.self.view_is c.in-Valued.is c.tensor_of-tensor.ensures c.as_slice.ensures.value c.value_of-left.ensures
    ∙ where_unequal c.value_of-left.result w.value c.ne.result c.ne.ensures c.if-ne.true

pub returns-in-Valued-clause-answer : goal.returns-in-Valued-clause-answer
returns-in-Valued-clause-answer c =
    let w = c.self.inside in
    tensor_checked w.stage w.log_bits w.point.items w.value w.switched w.rows.items w.left w.rounds w.closed _ c.args.values.now c.tensor_of-tensor.result c.as_slice.result.now c.value_of-left.result
    c.self.view_is c.in-Valued.is c.tensor_of-tensor.ensures c.as_slice.ensures.value c.value_of-left.ensures
    ∙ where_equal c.value_of-left.result w.value c.ne.result c.ne.ensures c.if-ne.false
