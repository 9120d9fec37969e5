use Rattle.std.proofs.Common.{◌++◌, ◌-◌, ◌∙◌, ap, arith}
use Rattle.proof_plan.specs.Plan.{backwards, columns_entries, committed_claims, times_in}
use Rattle.proof_plan.proofs.ColumnSteps.{column_done}
use Rattle.proof_plan.proofs.columns.push_columns.Goals as goal

pub loop-c-preserved : goal.loop-c-preserved
loop-c-preserved c =
    let i = c.loop-c.c - 1 in
    let t = c.loop-c-test.true in
    let w = c.loop-c.invariant.within in
    let f = c.loop-c.invariant.few in
    let one = c.committed_count-committed.ensures.few in
    record {
      within = omega arith;
      few = omega arith;
      done = column_done c.args.rows i c.loop-c.c c.times_in-claims.result c.args.columns.now c.index-columns-c.result c.loop-c.claimed.items c.claim_sources.new.claimed.items c.loop-c.entries.items c.push_column.new.entries.items
          (c.args.entries.now.items ++ columns_entries c.args.rows (backwards c.args.columns.now) c.args.claimed.now.items) c.loop-c.committed c.committed_count-committed.result (committed_claims (backwards c.args.columns.now) c.args.claimed.now.items)
          t (omega arith) w c.index-columns-c.is c.loop-c.invariant.done (c.times_in-claims.ensures ∙ ap (times_in i) c.as_slice.ensures.value) c.in_ok-push_column.ensures c.in_ok-claim_sources.ensures c.committed_count-committed.ensures.count;
    }
