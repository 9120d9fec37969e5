use Rattle.std.proofs.Common.{◌++◌, ap, length, arith}
use Rattle.proof_plan.specs.Plan.{bit_claims}
use Rattle.proof_plan.proofs.PlanBounds.{first_few}
use Rattle.m3_walk.specs.Course.{table_stages}
use Rattle.m3_walk.proofs.ColumnCourse.{table_counted, table_made}
use Rattle.m3_walk.proofs.columns.push_tables.Goals as goal

pub push_columns-requires-clause-few_claims : goal.push_columns-requires-clause-few_claims
push_columns-requires-clause-few_claims c =
    let few = first_few c.table_at-table.result.now c.table_at-table.ensures.small in
    let same = ap (λ ks. length ks) c.in_ok-claimed.ensures in
    omega arith

pub loop-t-preserved : goal.loop-t-preserved
loop-t-preserved c =
    let tables = c.args.shape.now.tables in
    let few = c.loop-t.invariant.few in
    let more = c.in_ok-committed.ensures.few in
    record {
      stages = table_made tables c.args.rows.now c.loop-t.t tables c.table_at-table.result.now c.in_ok-claimed.claimed.items c.loop-t.stages.items c.push_columns.new.stages.items (c.args.stages.now.items ++ table_stages tables c.args.rows.now 0 tables) c.table_at-table.ensures.table c.in_ok-claimed.ensures c.in_ok-committed.ensures.stages c.loop-t.invariant.stages;
      claims = table_counted c.loop-t.t tables c.table_at-table.result.now c.in_ok-claimed.claimed.items c.loop-t.committed c.in_ok-committed.field-0 (bit_claims tables) c.table_at-table.ensures.table c.in_ok-claimed.ensures c.in_ok-committed.ensures.committed c.loop-t.invariant.claims;
      few = omega arith;
    }
