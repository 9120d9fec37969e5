use Rattle.std.proofs.Common.{◌-◌, ◌≤◌, ◌∙◌, length, take, drop, ap, arith, subst}
use Rattle.std.proofs.lemmas.Result.{err_from_is_err_and}
use Rattle.table_text.specs.Lexing.{piece_at}
use Rattle.table_text.specs.Reading.{Gives}
use Rattle.table_text.proofs.Walks.{reading_goes_on, reading_fails, reading_ends, tail_is, tail_len}
use Rattle.table_text.proofs.read.read_from.Goals as goal

pub returns-in_err-progress : goal.returns-in_err-progress
returns-in_err-progress c = let p = err_from_is_err_and c.from_residual.result c.from_residual.ensures.1 in
    rw (p.1, p.2) (reading_fails c.loop-at.progress _ c.loop-at.at c.piece_at-piece.result.len _ c.args.text.now _ c.loop-at-test.true
    (c.piece_at-piece.ensures.exact ∙ ap piece_at (tail_is c.loop-at.at c.args.text.now)) c.in_err-progress.ensures.exact c.loop-at.invariant.left)

pub loop-at-preserved : goal.loop-at-preserved
loop-at-preserved c =
    let counts = c.in_ok-progress.ensures.counts in
    let one : 1 ≤ c.piece_at-piece.result.len = c.piece_at-piece.ensures.goes_on in
    let most : c.piece_at-piece.result.len ≤ length (take (length c.args.text.now - c.loop-at.at) (drop c.loop-at.at c.args.text.now)) = c.piece_at-piece.ensures.within in
    record {
      left = reading_goes_on c.loop-at.progress c.in_ok-progress.progress c.loop-at.at c.piece_at-piece.result.len _ c.args.text.now _ c.loop-at-test.true
          (c.piece_at-piece.ensures.exact ∙ ap piece_at (tail_is c.loop-at.at c.args.text.now)) c.in_ok-progress.ensures.exact c.loop-at.invariant.left;
      within = omega (arith, tail_len c.loop-at.at c.args.text.now);
      counts = (omega (arith, counts.0), omega (arith, counts.1), omega (arith, counts.2));
    }

pub returns : goal.returns
returns c = subst (Gives c.finished.result) (reading_ends c.loop-at.progress c.loop-at.at c.args.text.now _ c.loop-at-test.false c.loop-at.invariant.left) c.finished.ensures
