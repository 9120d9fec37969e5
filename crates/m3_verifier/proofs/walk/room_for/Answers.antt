use Rattle.std.proofs.Common.{ap, arith}
use Rattle.list_laws.proofs.Lists.{drop_here}
use Rattle.proof_plan.specs.Plan.{flush_count}
use Rattle.m3_walk.specs.Course.{claim_count}
use Rattle.m3_verifier.proofs.walk.room_for.Goals as goal

pub loop-table-preserved : goal.loop-table-preserved
loop-table-preserved c =
    let rest = drop_here c.args.tables.now c.loop-table.table-index c.table-item.result c.loop-table-test.true c.table-item.is in
    let flushes = ap flush_count rest in
    let claims = ap claim_count rest in
    let whole = c.loop-table.invariant.enough in
    let here = c.in_ok-room.ensures.count in
    let small = c.in_ok-room.ensures.few in
    let few = c.loop-table.invariant.few in
    record { enough = omega arith; few = omega arith }
