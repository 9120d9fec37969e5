use Rattle.std.proofs.Common.{◌≡◌, false, ap}
use Rattle.m3_tool.specs.Run.{Answer, is_outside}
use Rattle.m3_tool.specs.Answer.{answer_of, line_of}
use Rattle.m3_tool.proofs.Runs.{may_put, says_whether}
use Rattle.witness_reader.specs.Witness.{filling_of}
use Rattle.m3_tool.specs.Lines.{lowered_text}
use Rattle.m3_tool.proofs.OneAnswerDue.{due_once}
use Rattle.m3_tool.proofs.Verdicts.{satisfied, violated, printed, lowered, counted}
use Rattle.m3_tool.proofs.running.run.Goals as goal

pub returns-in-Ok-clause-satisfied : goal.returns-in-Ok-clause-satisfied
returns-in-Ok-clause-satisfied g c tables witness is told is_yes =
    let inside : is_outside c.answer_to-answer.result.status ≡ false = ap is_outside is_yes in
    let due = rw is at (c.answer_to-answer.ensures.due told inside) in
    let s = satisfied _ _ _ due is_yes in
    (s.0, rw s.1 at (rw c.as_bytes.ensures at c.in-Ok.ensures.done))

pub returns-in-Ok-clause-violated : goal.returns-in-Ok-clause-violated
returns-in-Ok-clause-violated g c tables witness is told is_no =
    let inside : is_outside c.answer_to-answer.result.status ≡ false = ap is_outside is_no in
    let due = rw is at (c.answer_to-answer.ensures.due told inside) in
    (line_of c.answer_to-answer.result.text, violated _ _ _ due is_no, rw c.as_bytes.ensures at c.in-Ok.ensures.done)

pub returns-clause-write_fault : goal.returns-clause-write_fault
returns-clause-write_fault g c _ =
    let faults = c.in-Err.ensures in (
      faults.fault,
      record {
        line = line_of c.answer_to-answer.result.text;
        may = may_put _ _ _ (answer_of c.answer_to-answer.result) c.answer_to-answer.ensures;
        part = rw c.as_bytes.ensures at faults.prefix;
      },
    )

pub returns-in-Ok-clause-whether : goal.returns-in-Ok-clause-whether
returns-in-Ok-clause-whether g c = says_whether _ _ (g.S.Shelf.state c.answer_to-answer.new.shelf) (answer_of c.answer_to-answer.result) c.answer_to-answer.ensures

pub returns-in-Ok-clause-printed : goal.returns-in-Ok-clause-printed
returns-in-Ok-clause-printed g c tables is told is_yes =
    let inside : is_outside c.answer_to-answer.result.status ≡ false = ap is_outside is_yes in
    let due = rw is at (c.answer_to-answer.ensures.due told inside) in
    let p = printed _ _ due is_yes in
    (p.0, p.1, rw p.2 at (rw c.as_bytes.ensures at c.in-Ok.ensures.done))

pub returns-in-Ok-clause-lowered : goal.returns-in-Ok-clause-lowered
returns-in-Ok-clause-lowered g c tables witness alpha gamma is told is_yes =
    let inside : is_outside c.answer_to-answer.result.status ≡ false = ap is_outside is_yes in
    let due = rw is at (c.answer_to-answer.ensures.due told inside) in
    let l = lowered alpha gamma _ _ _ due is_yes in
    let line : line_of c.answer_to-answer.result.text ≡ lowered_text l.read.shape.parts l.read.given.rows (filling_of l.read.shape.parts.tables l.read.given) alpha gamma l.answered.holds = ap (λ (x : Answer). x.line) l.answered.is in
    record {
      read = l.read;
      holds = l.answered.holds;
      exact = l.answered.exact;
      satisfied = λ satisfies. l.answered.satisfied satisfies;
      puts = rw line at (rw c.as_bytes.ensures at c.in-Ok.ensures.done);
    }

pub returns-in-Ok-clause-counted : goal.returns-in-Ok-clause-counted
returns-in-Ok-clause-counted g c tables rows is told is_yes =
    let inside : is_outside c.answer_to-answer.result.status ≡ false = ap is_outside is_yes in
    let due = rw is at (c.answer_to-answer.ensures.due told inside) in
    let p = counted rows _ _ due is_yes in
    (p.0, rw p.1 at (rw c.as_bytes.ensures at c.in-Ok.ensures.done))

pub returns-in-Ok-clause-only : goal.returns-in-Ok-clause-only
returns-in-Ok-clause-only g c told inside a due = due_once _ _ (answer_of c.answer_to-answer.result) a (c.answer_to-answer.ensures.once told inside) (c.answer_to-answer.ensures.due told inside) due
