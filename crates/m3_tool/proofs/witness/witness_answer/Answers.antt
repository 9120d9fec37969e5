use Rattle.m3_tool.specs.Answer.{answer_of}
use Rattle.m3_tool.specs.Checking.{Answering}
use Rattle.m3_tool.proofs.AnswerSteps.{answered_witness}
use Rattle.m3_tool.proofs.witness.witness_answer.Goals as goal

pub returns-in_ok-values_answer-in-Ok-clause-due : goal.returns-in_ok-values_answer-in-Ok-clause-due
returns-in_ok-values_answer-in-Ok-clause-due c =
    let found = c.in-Ok.ensures.found in
    answered_witness (Answering c.args.question) c.args.shape.now c.in-Ok.store.shape c.args.file.now c.in-Ok.store.rows c.in-Ok.store.filling (answer_of c.in_ok-values_answer-in-Ok.field-0) found.0 found.1 c.in_ok-values_answer-in-Ok.ensures.due
