use Rattle.std.proofs.Common.{◌≡◌, ◌<◌, ◌≤◌, ◌^◌, List, length, ap, sym, subst, ◌∙◌, arith}
use Rattle.claim_lists.specs.ByColumn.{by_column}
use Rattle.sumcheck.specs.declared.column_claim.ColumnClaim.{ColumnClaim}
use Rattle.bit_claim.specs.Batching as batch
use Rattle.m3_walk.specs.Kept as kept
use Rattle.m3_walk.proofs.KeptSteps.{batch_room, batch_takes}
use Rattle.m3_walk.proofs.kept.Kept.batch.Goals as goal

pub enter-requires-clause-taken : goal.enter-requires-clause-taken
enter-requires-clause-taken c =
    let same = ap (λ (w : kept.Kept). w.columns) c.self.view_is in
    let taken : c.as_slice.result.now ≡ by_column c.args.self.now.columns = c.as_slice.ensures.value ∙ c.order_into.ensures.ordered ∙ ap by_column same in
    let all = ap length same in
    let few = c.self.invariant.few_columns in
    let small = c.self.invariant.small in
    let short : length c.args.self.now.columns < 2 ^ 30 = omega (arith, all, few, small) in
    subst (λ (cs : List ColumnClaim). batch.Takes cs c.args.walk.now) (sym taken) (batch_takes c.args.self.now.columns c.args.walk.now c.requires short)

pub enter-requires-clause-room : goal.enter-requires-clause-room
enter-requires-clause-room c =
    let same = ap (λ (w : kept.Kept). w.columns) c.self.view_is in
    let taken : c.as_slice.result.now ≡ by_column c.args.self.now.columns = c.as_slice.ensures.value ∙ c.order_into.ensures.ordered ∙ ap by_column same in
    subst (λ (cs : List ColumnClaim). length cs ≤ batch.room_of c.args.walk.now) (sym taken) (batch_room c.args.self.now.columns c.args.walk.now c.requires)
