use Rattle.std.proofs.Common.{◌++◌, arith}
use Rattle.proof_plan.specs.Plan.{bit_claims, table_entries}
use Rattle.proof_plan.proofs.ColumnSteps.{table_counted, table_pushed}
use Rattle.proof_plan.proofs.columns.push_tables.Goals as goal

pub loop-t-preserved : goal.loop-t-preserved
loop-t-preserved c =
    let few = c.loop-t.invariant.few in
    let one = c.in_ok-committed.ensures.few in
    record {
      entries = table_pushed c.args.rows.now c.loop-t.t c.args.tables.now c.index-tables-t.result c.as_slice.result.now c.in_ok-claimed.claimed.items c.loop-t.entries.items c.push_columns.new.entries.items (c.args.entries.now.items ++ table_entries c.args.rows.now 0 c.args.tables.now)
          c.loop-t-test.true c.index-tables-t.is c.as_slice.ensures c.in_ok-claimed.ensures c.in_ok-committed.ensures.entries c.loop-t.invariant.entries;
      claims = table_counted c.loop-t.t c.args.tables.now c.index-tables-t.result c.as_slice.result.now c.in_ok-claimed.claimed.items c.loop-t.committed c.in_ok-committed.field-0 (bit_claims c.args.tables.now) c.loop-t-test.true c.index-tables-t.is c.as_slice.ensures c.in_ok-claimed.ensures c.in_ok-committed.ensures.committed c.loop-t.invariant.claims;
      few = omega arith;
    }
