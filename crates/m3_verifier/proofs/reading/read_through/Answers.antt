use Rattle.std.proofs.Common.{◌+◌, ◌≤◌, drop, subst}
use Rattle.m3_verifier.proofs.ReadingSteps.{at_end, due_at, halts_at, is_due, next_due, on_at}
use Rattle.m3_verifier.specs.Reading.{reading}
use Rattle.m3_verifier.proofs.reading.read_through.Goals as goal

pub entry-requires-in-loop-number-clause-due : goal.entry-requires-in-loop-number-clause-due
entry-requires-in-loop-number-clause-due g c =
    let es = c.args.plan.now.entries in
    let i = c.loop-number.number in
    is_due g.W.Steps.machine c.entry.result (drop (i + 1) es) c.loop-number.reader.state (due_at g.W.Steps.machine es i c.entry.result c.loop-number.reader.state c.entry.ensures.entry c.loop-number.invariant.due)

pub returns-in-Err-clause-stopped : goal.returns-in-Err-clause-stopped
returns-in-Err-clause-stopped g c =
    let M = g.W.Steps.machine in
    let es = c.args.plan.now.entries in
    halts_at M es c.loop-number.number c.entry.result c.loop-number.reader (reading M es 0 c.args.reader.now) c.in-Err.halt c.entry.ensures.entry c.in-Err.ensures.halt c.loop-number.invariant.alike

pub loop-number-preserved : goal.loop-number-preserved
loop-number-preserved g c =
    let M = g.W.Steps.machine in
    let es = c.args.plan.now.entries in
    let i = c.loop-number.number in
    let here = due_at M es i c.entry.result c.loop-number.reader.state c.entry.ensures.entry c.loop-number.invariant.due in record {
      due = next_due M c.is_lawful.ensures c.entry.result (drop (i + 1) es) c.loop-number.reader c.entry-in-loop-number.new.self c.in_default.ensures.next here;
      alike = on_at M es i c.entry.result c.loop-number.reader c.entry-in-loop-number.new.self (reading M es 0 c.args.reader.now) c.entry.ensures.entry c.in_default.ensures.halt c.in_default.ensures.next c.loop-number.invariant.alike;
    }

pub returns-clause-stopped : goal.returns-clause-stopped
returns-clause-stopped g c =
    let M = g.W.Steps.machine in
    let es = c.args.plan.now.entries in
    (at_end M es c.loop-number.number c.loop-number.reader (reading M es 0 c.args.reader.now) (subst (λ n. n ≤ c.loop-number.number) c.len-number-end.ensures c.loop-number-test.false) c.loop-number.invariant.alike).0

pub returns-clause-last : goal.returns-clause-last
returns-clause-last g c =
    let M = g.W.Steps.machine in
    let es = c.args.plan.now.entries in
    (at_end M es c.loop-number.number c.loop-number.reader (reading M es 0 c.args.reader.now) (subst (λ n. n ≤ c.loop-number.number) c.len-number-end.ensures c.loop-number-test.false) c.loop-number.invariant.alike).1
