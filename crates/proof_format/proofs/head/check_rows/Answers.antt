use Rattle.std.proofs.Common.{arith, rules}
use Rattle.proof_format.proofs.HeadSteps.{past_rows, stopped_rows, stopped_short}
use Rattle.proof_format.proofs.head.check_rows.Goals as goal

pub returns-in_err-check_whole-clause-fault : goal.returns-in_err-check_whole-clause-fault
returns-in_err-check_whole-clause-fault c =
    let stop = stopped_short c.args.tables c.loop-table.table c.args.bytes.now _ _ (omega arith) c.loop-table.invariant.rest c.in_err-check_whole.ensures.fault in
    search rules

pub returns-in_err-check_table_rows-clause-fault : goal.returns-in_err-check_table_rows-clause-fault
returns-in_err-check_table_rows-clause-fault c =
    let stop = stopped_rows c.args.tables c.loop-table.table c.args.bytes.now _ _ (omega arith) c.loop-table.invariant.rest c.in_ok-check_whole.ensures.fault c.in_err-check_table_rows.ensures in
    search rules

pub loop-table-preserved : goal.loop-table-preserved
loop-table-preserved c = record {
  rest = past_rows c.args.tables c.loop-table.table c.args.bytes.now _ (omega arith) c.loop-table.invariant.rest c.in_ok-check_whole.ensures.fault c.in_ok-check_table_rows.ensures;
  whole = omega (arith, c.in_ok-check_whole.ensures.whole);
}
