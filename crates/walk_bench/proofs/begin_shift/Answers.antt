use Rattle.std.proofs.Common.{◌∙◌, IsSome, refl, sym, ap, subst}
use Rattle.eval_reduce.specs.declared.shifting.Shifting.{Shifting}
use Rattle.eval_reduce.specs.Shift.{ShiftTakes, shifting_of}
use Rattle.eval_reduce.proofs.Starts.{given, shifted_starts, same_shifting}
use Rattle.walk_bench.proofs.begin_shift.Goals as goal

pub begin-requires-clause-form : goal.begin-requires-clause-form
begin-requires-clause-form c = subst IsSome (sym c.requires.form.1) refl

pub enter-requires-clause-long : goal.enter-requires-clause-long
enter-requires-clause-long c =
    let form = c.requires.form in
    let same = same_shifting (shifting_of c.args.shape.now.tables c.args.rows c.args.claim.now.table c.args.claim.now.column) form.0 c.in-Ok.prover.shifting form.1 c.in-Ok.ensures.form in
    form.2.long ∙ ap (λ (f : Shifting). f.vars) same

pub begin-requires-2 : goal.begin-requires-2
begin-requires-2 c = subst IsSome (sym c.requires.form.1) refl

pub enter-requires-2 : goal.enter-requires-2
enter-requires-2 c = subst (ShiftTakes c.args.claim.now) (sym (c.in-Ok-begin.ensures c.requires.form.0 c.requires.form.1)) c.requires.form.2

pub returns : goal.returns
returns c =
    let form = c.requires.form in
    let p = c.in-Ok.prover in
    let made = c.in-Ok.ensures in
    let claim = c.args.claim.now in
    let same = same_shifting (shifting_of c.args.shape.now.tables c.args.rows claim.table claim.column) form.0 p.shifting form.1 made.form in
    let there = c.requires.there form.0 form.1 in
    (given c.args.tables.now, shifted_starts c.args.tables.now form.0 p c.enter.new.self c.in-Ok-begin.walk c.enter-2.new.self claim claim same form.2 there made.source refl c.enter.ensures (c.in-Ok-begin.ensures form.0 form.1) c.enter-2.ensures)
