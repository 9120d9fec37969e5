use Rattle.std.proofs.Common.{◌∙◌, length, subst}
use Rattle.std.proofs.lemmas.Result.{err_from_is_err_and}
use Rattle.proof_format.specs.declared.head.Head.{Head}
use Rattle.m3_verifier.specs.Verdict.{Answers}
use Rattle.m3_verifier.proofs.VerdictSteps.{all_bytes, head_stopped, on_head, rows_counted, rows_few}
use Rattle.m3_verifier.proofs.judging.judge.Goals as goal

pub returns-in_err-head : goal.returns-in_err-head
returns-in_err-head c =
    let p = err_from_is_err_and c.from_residual.result c.from_residual.ensures.1 in
    rw (p.1, p.2) (head_stopped Head c.args.shape.now c.args.bytes.now c.in_err-head.field-0.0 c.in_err-head.ensures.fault)

pub judge_rows-requires-clause-counts : goal.judge_rows-requires-clause-counts
judge_rows-requires-clause-counts c = rows_counted (length c.args.shape.now.tables) c.args.bytes.now c.as_slice.result.now (c.as_slice.ensures ∙ c.in_ok-head.ensures.head.1.1)

pub judge_rows-requires-clause-few : goal.judge_rows-requires-clause-few
judge_rows-requires-clause-few c =
    let n = length c.args.shape.now.tables in
    let spelled = c.heads_are_spelled_again.ensures c.args.shape.now.digest n c.args.bytes.now (all_bytes c.args.bytes.now c.type_inv.bytes) c.in_ok-head.ensures.head.0 in
    rows_few n c.args.bytes.now c.as_slice.result.now (c.as_slice.ensures ∙ c.in_ok-head.ensures.head.1.1) spelled.1

pub judge_rows-requires-clause-whole : goal.judge_rows-requires-clause-whole
judge_rows-requires-clause-whole c = (c.heads_are_spelled_again.ensures c.args.shape.now.digest (length c.args.shape.now.tables) c.args.bytes.now (all_bytes c.args.bytes.now c.type_inv.bytes) c.in_ok-head.ensures.head.0).0

pub returns : goal.returns
returns c =
    subst (λ due. Answers due c.judge_rows.result)
    (on_head c.args.shape.now c.args.bytes.now c.as_slice.result.now c.in_ok-head.ensures.head.0 (c.as_slice.ensures ∙ c.in_ok-head.ensures.head.1.1)) c.judge_rows.ensures
