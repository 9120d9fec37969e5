use Rattle.std.proofs.Common.{refl}
use Rattle.sumcheck.specs.declared.column_claim.ColumnClaim.{ColumnClaim}
use Rattle.eval_reduce.specs.Linear.{combination_of}
use Rattle.eval_reduce.proofs.Starts.{linear_starts, same_combination}
use Rattle.reduction_tests.proofs.virtual_columns.begin_linear.Goals as goal

pub returns : goal.returns
returns c =
    let form = c.requires.form in
    let p = c.in_ok-prover.prover in
    let made = c.in_ok-prover.ensures in
    let same = same_combination (combination_of c.args.shape.now.tables c.args.rows c.args.claim.table c.args.claim.column) form.0 p.combination form.1 made.form in
    let told : ColumnClaim = record { table = c.args.claim.table; column = c.args.claim.column; point = c.args.claim.point; value = c.args.value } in
    let there = c.requires.there form.0 form.1 in
    linear_starts c.args.tables.now form.0 p c.enter.new.self c.in_ok-step.step c.enter-2.new.self c.args.claim told same form.2 there made.lists refl refl c.enter.ensures (c.in_ok-step.ensures form.0 form.1) c.enter-2.ensures
