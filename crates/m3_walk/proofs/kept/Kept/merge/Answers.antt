use Rattle.std.proofs.Common.{◌≡◌, ◌<◌, ◌^◌, List, length, ap, sym, subst, ◌∙◌, arith}
use Rattle.claim_lists.specs.OnColumn.{is_off, is_on, on_column}
use Rattle.sumcheck.specs.declared.column_claim.ColumnClaim.{ColumnClaim}
use Rattle.eval_reduce.specs.Merge as merge
use Rattle.m3_walk.specs.Kept as kept
use Rattle.m3_walk.proofs.KeptSteps.{length-filtered, merge_takes}
use Rattle.m3_walk.proofs.kept.Kept.merge.Goals as goal

pub enter-requires-clause-claims : goal.enter-requires-clause-claims
enter-requires-clause-claims c =
    let t = c.args.table in
    let k = c.args.column in
    let same = ap (λ (w : kept.Kept). w.columns) c.self.view_is in
    let taken : c.as_slice.result.now ≡ on_column t k c.args.self.now.columns = c.as_slice.ensures.value ∙ c.move_all.ensures.taken ∙ ap (on_column t k) same in
    let fewer = length-filtered (is_on t k) c.args.self.now.columns in
    let all = ap length same in
    let few = c.self.invariant.few_columns in
    let small = c.self.invariant.small in
    let short : length (on_column t k c.args.self.now.columns) < 2 ^ 30 = omega (arith, fewer, all, few, small) in
    (t, k, subst (λ (cs : List ColumnClaim). merge.Takes t k cs c.args.walk.now) (sym taken) (merge_takes t k (on_column t k c.args.self.now.columns) c.args.walk.now c.requires short))

pub invariant_of-self : goal.invariant_of-self
invariant_of-self c =
    let before = c.self.invariant in
    let fewer = length-filtered (is_off c.args.table c.args.column) c.self.inside.columns.items in
    let left = ap length c.move_all.ensures.others in
    record {
      small = before.small;
      few_products = before.few_products;
      few_columns = let k = before.few_columns in omega (arith, fewer, left, k);
      products = before.products;
      columns = let k = before.columns in let r = c.move_all.ensures.capacity in omega (arith, r, k);
      taken = let k = before.taken in let r = c.move_all.ensures.room in let e = c.clear.ensures.capacity in omega (arith, r, k, e);
      none = c.clear.ensures.items;
    }

pub returns-clause-walk : goal.returns-clause-walk
returns-clause-walk c =
    let t = c.args.table in
    let k = c.args.column in
    let same = ap (λ (w : kept.Kept). w.columns) c.self.view_is in
    let taken : c.as_slice.result.now ≡ on_column t k c.args.self.now.columns = c.as_slice.ensures.value ∙ c.move_all.ensures.taken ∙ ap (on_column t k) same in
    let fewer = length-filtered (is_on t k) c.args.self.now.columns in
    let all = ap length same in
    let few = c.self.invariant.few_columns in
    let small = c.self.invariant.small in
    let short : length (on_column t k c.args.self.now.columns) < 2 ^ 30 = omega (arith, fewer, all, few, small) in
    c.enter.ensures t k (subst (λ (cs : List ColumnClaim). merge.Takes t k cs c.args.walk.now) (sym taken) (merge_takes t k (on_column t k c.args.self.now.columns) c.args.walk.now c.requires short))
    ∙ ap (λ (cs : List ColumnClaim). merge.state_claims t k cs c.args.walk.now) taken
