use Rattle.std.proofs.Common.{sym, subst}
use Rattle.std.specs.Prelude.{IfOk}
use Rattle.m3_tool.specs.declared.witness.Question.{Question}
use Rattle.m3_tool.specs.Answer.{answer_of}
use Rattle.m3_tool.specs.Checking.{Answering}
use Rattle.m3_tool.proofs.witness.values_answer.Goals as goal

pub returns-in-Lowered-clause-due : goal.returns-in-Lowered-clause-due
returns-in-Lowered-clause-due c =
    let store = c.args.store.now in
    subst (λ (q : Question). IfOk c.lowered.result (λ a. Answering q store.shape store.rows store.filling (answer_of a))) (sym c.in-Lowered.is) c.lowered.ensures.lowered
