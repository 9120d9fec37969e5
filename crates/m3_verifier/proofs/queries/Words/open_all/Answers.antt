use Rattle.std.proofs.Common.{◌≡◌, ◌∙◌, ◌+◌, ◌-◌, ◌<◌, ◌≤◌, refl, ap, arith}
use Rattle.std.proofs.lemmas.Result.{err_from_is_err_and}
use Rattle.fri_fold.specs.Query.{Check}
use Rattle.m3_verifier.specs.Queries.{Words}
use Rattle.m3_verifier.proofs.QuerySteps.{all_passed, end_halts, round_halts, round_passed}
use Rattle.m3_verifier.proofs.queries.Words.open_all.Goals as goal

pub returns-in_err-left-clause-answer : goal.returns-in_err-left-clause-answer
returns-in_err-left-clause-answer c =
    let p = err_from_is_err_and c.from_residual.result c.from_residual.ensures.1 in
    let n = ap (λ (w : Words). w.rounds) c.self.view_is in
    let t = c.loop-round-test.true in
    let below : c.loop-round.round < c.args.self.now.rounds = omega arith in
    let height : c.self.inside.rounds - c.loop-round.round + 1 ≡ c.args.self.now.rounds - c.loop-round.round + 1 = omega arith in
    rw (p.1, p.2) (c.loop-round.invariant.same ∙ round_halts c.args.self.now c.loop-round.round (c.self.inside.rounds - c.loop-round.round + 1) c.loop-round.check c.loop-round.left.now c.in_err-left.field-0.0 below height c.in_err-left.ensures.halt)

pub loop-round-preserved : goal.loop-round-preserved
loop-round-preserved c =
    let n = ap (λ (w : Words). w.rounds) c.self.view_is in
    let t = c.loop-round-test.true in
    let below : c.loop-round.round < c.args.self.now.rounds = omega arith in
    let height : c.self.inside.rounds - c.loop-round.round + 1 ≡ c.args.self.now.rounds - c.loop-round.round + 1 = omega arith in record {
      same = c.loop-round.invariant.same ∙ round_passed c.args.self.now c.loop-round.round (c.self.inside.rounds - c.loop-round.round + 1) c.loop-round.check c.open.new.check c.loop-round.left.now c.in_ok-left.left.now below height c.in_ok-left.ensures.halt c.in_ok-left.ensures.next c.in_ok-left.ensures.left;
      due = ap (λ (k : Check). k.round) c.in_ok-left.ensures.next ∙ ap (λ k. k + 1) c.loop-round.invariant.due;
      index = ap (λ (k : Check). k.index) c.in_ok-left.ensures.next ∙ c.loop-round.invariant.index;
    }

pub returns-in-Err-clause-answer : goal.returns-in-Err-clause-answer
returns-in-Err-clause-answer c =
    let n = ap (λ (w : Words). w.rounds) c.self.view_is in
    let t = c.loop-round-test.false in
    let all : c.args.self.now.rounds ≤ c.loop-round.round = omega arith in
    c.loop-round.invariant.same ∙ end_halts c.args.self.now c.loop-round.round c.loop-round.check c.self.inside.constant c.loop-round.left.now c.in-Err.fault all (ap (λ (w : Words). w.constant) c.self.view_is) (c.in-Err.ensures.err)

pub returns-clause-answer : goal.returns-clause-answer
returns-clause-answer c =
    let n = ap (λ (w : Words). w.rounds) c.self.view_is in
    let t = c.loop-round-test.false in
    let all : c.args.self.now.rounds ≤ c.loop-round.round = omega arith in
    c.loop-round.invariant.same ∙ all_passed c.args.self.now c.loop-round.round c.loop-round.check c.self.inside.constant c.loop-round.left.now all (ap (λ (w : Words). w.constant) c.self.view_is) (c.in_default.ensures.ok.0 refl)
