use Rattle.std.proofs.Common.{bit_xor, map, ap, ◌∙◌}
use Rattle.tower_laws.specs.Tower.{mul}
use Rattle.poly_laws.specs.Polynomial.{horner}
use Rattle.column_store.specs.Column.{list_of, lists}
use Rattle.oracle_lowering.proofs.ProductSteps.{number_at, one_times, tuple_done, tuple_next}
use Rattle.oracle_lowering.proofs.leaf.fingerprint_at.Goals as goal

pub loop-column-init : goal.loop-column-init
loop-column-init c = ap (bit_xor c.args.gamma) (one_times _)

pub loop-column-preserved : goal.loop-column-preserved
loop-column-preserved c =
    let value = number_at (list_of (lists c.args.columns.now)) c.args.row in
    tuple_next value c.as_slice-column-items.result.now c.loop-column.column-index c.loop-column.sum c.loop-column.power c.args.alpha c.add-sum.result c.mul-power.result _ c.loop-column-test.true
    (c.add-sum.ensures ∙ ap (bit_xor c.loop-column.sum) (c.mul.ensures ∙ ap (mul c.loop-column.power) c.value_at.ensures)) c.mul-power.ensures c.loop-column.invariant

pub returns : goal.returns
returns c =
    let value = number_at (list_of (lists c.args.columns.now)) c.args.row in
    tuple_done value c.as_slice-column-items.result.now c.loop-column.column-index c.loop-column.sum c.loop-column.power c.args.alpha _ c.loop-column-test.false c.loop-column.invariant
    ∙ ap (λ cs. bit_xor c.args.gamma (horner (map value cs) c.args.alpha)) c.as_slice-column-items.ensures
