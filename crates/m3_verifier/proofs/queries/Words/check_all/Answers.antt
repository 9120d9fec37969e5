use Rattle.std.proofs.Common.{◌∙◌, sym}
use Rattle.std.proofs.lemmas.Result.{err_from_is_err_and}
use Rattle.m3_verifier.proofs.QuerySteps.{draws_end, draws_on, none_left, one_halts, one_passed}
use Rattle.m3_verifier.proofs.queries.Words.check_all.Goals as goal

pub returns-in_err-left-clause-answer : goal.returns-in_err-left-clause-answer
returns-in_err-left-clause-answer c =
    let p = err_from_is_err_and c.from_residual.result c.from_residual.ensures.1 in
    rw (p.1, p.2) (c.loop-query.invariant.same ∙ one_halts c.args.self.now c.loop-query.query c.draw_index-index.result c.loop-query.transcript c.draw_index-index.new.transcript c.loop-query.left.now c.in_err-left.field-0.0 c.loop-query-test.true c.draw_index-index.ensures.state c.draw_index-index.ensures.index c.in_err-left.ensures.answer)

pub loop-query-preserved : goal.loop-query-preserved
loop-query-preserved c = record {
  same = c.loop-query.invariant.same ∙ one_passed c.args.self.now c.loop-query.query c.draw_index-index.result c.loop-query.transcript c.draw_index-index.new.transcript c.loop-query.left.now c.in_ok-left.left.now c.loop-query-test.true c.draw_index-index.ensures.state c.draw_index-index.ensures.index c.in_ok-left.ensures.answer;
  drawn = c.loop-query.invariant.drawn ∙ draws_on c.loop-query.query c.loop-query.transcript c.draw_index-index.new.transcript c.loop-query-test.true c.draw_index-index.ensures.state;
}

pub returns-clause-answer : goal.returns-clause-answer
returns-clause-answer c = c.loop-query.invariant.same ∙ none_left c.args.self.now c.loop-query.query c.loop-query.transcript c.loop-query.left.now c.loop-query-test.false

pub returns-clause-state : goal.returns-clause-state
returns-clause-state c = sym (c.loop-query.invariant.drawn ∙ draws_end c.loop-query.query c.loop-query.transcript c.loop-query-test.false)
