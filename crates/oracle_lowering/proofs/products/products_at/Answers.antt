use Rattle.std.proofs.Common.{◌≡◌, ◌↔◌, sym, ap, ◌∙◌, subst}
use Rattle.std.specs.Prelude.{◌&&◌, IsTrue}
use Rattle.table_shape.specs.Lowering.{LoweredHolds}
use Rattle.table_shape.specs.Satisfies.{Satisfies}
use Rattle.column_store.specs.Draft.{Stored}
use Rattle.oracle_lowering.proofs.Decided.{decided}
use Rattle.oracle_lowering.proofs.products.products_at.Goals as goal
use Rattle.oracle_lowering.proofs.products.products_at.Goals.{then-zero, else-zero}

pub returns-clause-holds : goal.returns-clause-holds
returns-clause-holds c =
    let both : c.if-zero.holds ≡ (c.are_zero-zero.result && c.are_equal-equal.result) = elim c.if-zero.branch [
      | then-zero w ↦ w.holds-is ∙ ap (λ b. b && c.are_equal-equal.result) (sym w.if-zero.true)
      | else-zero w ↦ w.holds-is ∙ w.if-zero.false ∙ ap (λ b. b && c.are_equal-equal.result) (sym w.if-zero.false)
    ] in
    decided c.store-store.result.now c.args.lowered.now c.args.alpha c.args.gamma c.as_slice.result.now c.in_ok-pairs.pairs c.are_zero-zero.result c.are_equal-equal.result c.if-zero.holds
    c.store-store.ensures c.as_slice.ensures c.in_ok-pairs.ensures c.are_zero-zero.ensures c.are_equal-equal.ensures both

pub returns-clause-satisfied : goal.returns-clause-satisfied
returns-clause-satisfied c satisfied =
    let both : c.if-zero.holds ≡ (c.are_zero-zero.result && c.are_equal-equal.result) = elim c.if-zero.branch [
      | then-zero w ↦ w.holds-is ∙ ap (λ b. b && c.are_equal-equal.result) (sym w.if-zero.true)
      | else-zero w ↦ w.holds-is ∙ w.if-zero.false ∙ ap (λ b. b && c.are_equal-equal.result) (sym w.if-zero.false)
    ] in
    let holds = decided c.store-store.result.now c.args.lowered.now c.args.alpha c.args.gamma c.as_slice.result.now c.in_ok-pairs.pairs c.are_zero-zero.result c.are_equal-equal.result c.if-zero.holds
    c.store-store.ensures c.as_slice.ensures c.in_ok-pairs.ensures c.are_zero-zero.ensures c.are_equal-equal.ensures both in
    let promise = subst (λ (s : Stored). Satisfies s.shape s.rows s.filling → LoweredHolds s.shape s.rows s.filling c.args.alpha c.args.gamma) c.store-store.ensures c.follows_from_the_tables.ensures in
    holds.1 (promise satisfied)
