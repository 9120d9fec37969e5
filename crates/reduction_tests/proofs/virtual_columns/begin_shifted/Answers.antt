use Rattle.std.proofs.Common.{refl}
use Rattle.sumcheck.specs.declared.column_claim.ColumnClaim.{ColumnClaim}
use Rattle.eval_reduce.specs.Shift.{shifting_of}
use Rattle.eval_reduce.proofs.Starts.{given, shifted_starts, same_shifting}
use Rattle.reduction_tests.proofs.virtual_columns.begin_shifted.Goals as goal

pub returns : goal.returns
returns c =
    let form = c.requires.form in
    let p = c.in_ok-prover.prover in
    let made = c.in_ok-prover.ensures in
    let same = same_shifting (shifting_of c.args.shape.now.tables c.args.rows c.args.claim.table c.args.claim.column) form.0 p.shifting form.1 made.form in
    let told : ColumnClaim = record { table = c.args.claim.table; column = c.args.claim.column; point = c.args.claim.point; value = c.args.value } in
    let there = c.requires.there form.0 form.1 in
    (given c.args.tables.now, shifted_starts c.args.tables.now form.0 p c.enter.new.self c.in_ok-walk.walk c.enter-2.new.self c.args.claim told same form.2 there made.source refl c.enter.ensures (c.in_ok-walk.ensures form.0 form.1) c.enter-2.ensures)
