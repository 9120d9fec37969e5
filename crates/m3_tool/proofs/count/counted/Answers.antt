use Rattle.std.proofs.Common.{◌≡◌, length, sym, ◌∙◌, ap}
use Rattle.m3_tool.specs.declared.status.Status.TheVariants.{Yes}
use Rattle.m3_tool.specs.Lines.{count_text}
use Rattle.m3_tool.specs.Run.{answer}
use Rattle.m3_tool.proofs.AnswerSteps.{sized_answer}
use Rattle.m3_tool.proofs.CountedText.{plan_told}
use Rattle.m3_tool.proofs.count.counted.Goals as goal

pub returns-in_ok-plan_text-in-Ok-clause-due : goal.returns-in_ok-plan_text-in-Ok-clause-due
returns-in_ok-plan_text-in-Ok-clause-due c =
    let shape = c.args.shape.now in
    let rows = c.args.rows.now in
    let text = c.in_ok-plan_text-in-Ok.field-0.items in
    let each : length rows ≡ length shape.tables = c.if-rows-tables.false ∙ ap length c.tables.ensures.all in
    let told : text ≡ count_text shape rows = plan_told shape rows text c.in-Ok.plan c.in_ok-plan_text-in-Ok.ensures c.in-Ok.ensures.plan in
    c.made.ensures ∙ ap (answer Yes) told ∙ sym (sized_answer shape rows each c.in-Ok.ensures.size)
