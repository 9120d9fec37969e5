use Rattle.std.proofs.Common.{◌≤◌, Err, length, refl, sym, subst}
use Rattle.std.proofs.lemmas.Result.{err_from_is_err_and}
use Rattle.m3_verifier.specs.declared.verify_stop.VerifyStop.{VerifyStop}
use Rattle.m3_verifier.specs.Verdict.{Answers, verdict_on_rows}
use Rattle.m3_verifier.proofs.VerdictSteps.{due_begun, few_rounds, on_rows, stopped_rows}
use Rattle.m3_verifier.proofs.judging.judge_rows.Goals as goal

pub returns-in_err-plan : goal.returns-in_err-plan
returns-in_err-plan c =
    let p = err_from_is_err_and c.from_residual.result c.from_residual.ensures.1 in
    rw (p.1, p.2) (stopped_rows c.args.shape.now c.args.rows.now c.args.bytes.now c.in_err-plan.field-0.0 c.in_err-plan.ensures.stop)

pub returns-in_err-walk : goal.returns-in_err-walk
returns-in_err-walk c =
    let p = err_from_is_err_and c.from_residual-in_err-walk.result c.from_residual-in_err-walk.ensures.1 in
    rw (p.1, p.2) (stopped_rows c.args.shape.now c.args.rows.now c.args.bytes.now c.in_err-walk.field-0.0 c.in_err-walk.ensures.stop)

pub returns-in_err-reader : goal.returns-in_err-reader
returns-in_err-reader c =
    let p = err_from_is_err_and c.from_residual-in_err-reader.result c.from_residual-in_err-reader.ensures.1 in
    rw (p.1, p.2) (subst (λ (stop : VerifyStop). Answers (verdict_on_rows c.args.shape.now c.args.rows.now c.args.bytes.now) (Err stop)) (sym c.in_err-reader.ensures.memory) tt)

pub reader_after_head-requires-clause-low : goal.reader_after_head-requires-clause-low
reader_after_head-requires-clause-low c = subst (λ m. m ≤ 22) (sym c.packed_vars.ensures.value) (few_rounds c.args.shape.now c.args.rows.now c.in_ok-plan.plan c.in_ok-plan.ensures.plan)

pub judge_entries-requires : goal.judge_entries-requires
judge_entries-requires c =
    due_begun c.args.shape.now c.args.rows.now c.args.bytes.now c.in_ok-plan.plan c.in_ok-walk.walk (length c.args.shape.now.tables) c.packed_vars.result c.in_ok-reader.reader
    c.in_ok-plan.ensures.plan c.in_ok-walk.ensures.walk c.in_ok-reader.ensures.reader

pub returns : goal.returns
returns c =
    subst (λ due. Answers due c.judge_entries.result)
    (on_rows c.args.shape.now c.args.rows.now c.args.bytes.now c.in_ok-plan.plan c.in_ok-walk.walk c.packed_vars.result (length c.args.bytes.now) c.in_ok-reader.reader
    c.in_ok-plan.ensures.plan c.in_ok-walk.ensures.walk c.packed_vars.ensures.value refl c.in_ok-reader.ensures.reader) c.judge_entries.ensures
