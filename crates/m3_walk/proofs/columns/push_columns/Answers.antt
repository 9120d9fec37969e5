use Rattle.std.proofs.Common.{◌++◌, ◌-◌, ◌∙◌, ap, get_or, length, arith}
use Rattle.proof_plan.specs.Plan.{backwards, committed_claims, times_in}
use Rattle.proof_plan.specs.Small.{ColumnIsSmall}
use Rattle.proof_plan.proofs.PlanBounds.{times_few}
use Rattle.m3_walk.specs.Course.{columns_stages}
use Rattle.m3_walk.proofs.ColumnCourse.{all_at, claims_left, column_made}
use Rattle.m3_walk.proofs.columns.push_columns.Goals as goal

pub push_column-requires-clause-few_claims : goal.push_column-requires-clause-few_claims
push_column-requires-clause-few_claims c =
    let few = times_few (c.loop-c.c - 1) c.as_slice.result.now in
    let same = ap (λ ks. length ks) c.as_slice.ensures.value in
    let room = c.loop-c.invariant.room in
    let times = c.times_in-claims.ensures in
    omega arith

pub loop-c-preserved : goal.loop-c-preserved
loop-c-preserved c =
    let i = c.loop-c.c - 1 in
    let cs = c.args.table.now.columns in
    let some = c.loop-c-test.true in
    let within = c.loop-c.invariant.within in
    let few = c.loop-c.invariant.few in
    let one = c.committed_count.ensures.few in
    let at = c.index-columns-c.is ∙ ap (λ cs. get_or cs i c.index-columns-c.result) c.as_slice-columns.ensures in
    record {
      within = omega arith;
      few = omega arith;
      room = claims_left c.index-columns-c.result i c.loop-c.c c.times_in-claims.result c.loop-c.claimed.items c.claim_sources.new.claimed.items (all_at ColumnIsSmall cs i c.index-columns-c.result c.requires.small.columns (omega arith) at) c.in_ok-claim_sources.ensures (omega arith) c.loop-c.invariant.room;
      done = column_made c.args.shape.now.tables c.args.rows c.args.t i c.loop-c.c c.times_in-claims.result cs c.index-columns-c.result c.loop-c.claimed.items c.claim_sources.new.claimed.items c.loop-c.stages.items c.push_column.new.stages.items
          (c.args.stages.now.items ++ columns_stages c.args.shape.now.tables c.args.rows c.args.t (backwards cs) c.args.claimed.now.items) c.loop-c.committed c.committed_count.result (committed_claims (backwards cs) c.args.claimed.now.items)
          (omega arith) (omega arith) at c.loop-c.invariant.done (c.times_in-claims.ensures ∙ ap (times_in i) c.as_slice.ensures.value) c.in_ok-push_column.ensures c.in_ok-claim_sources.ensures c.committed_count.ensures.count;
    }
