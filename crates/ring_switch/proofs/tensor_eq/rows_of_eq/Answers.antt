use Rattle.std.proofs.Common.{◌∙◌, arith}
use Rattle.tensor_laws.specs.Switch.{scaled}
use Rattle.ring_switch.proofs.TensorSteps.{all_rows, more_rows, no_rows}
use Rattle.ring_switch.proofs.tensor_eq.rows_of_eq.Goals as goal

pub loop-k-init : goal.loop-k-init
loop-k-init c = let h = c.max-count.ensures in no_rows c.args.high.now c.args.at.now c.unit-rows.result c.max-count.result (omega arith) (omega arith) c.unit-rows.ensures

pub loop-k-preserved : goal.loop-k-preserved
loop-k-preserved c =
    more_rows c.args.high.now c.args.at.now c.loop-k.rows _ _ _ c.max-count.result c.loop-k.k c.coordinate-h.result c.coordinate-a.result c.loop-k-test.true c.coordinate-h.ensures c.coordinate-a.ensures c.loop-k.invariant
    (c.scaled-at_zero.ensures ∙ (λ i. scaled 128 (c.add.ensures i) (c.add-in-loop-k.ensures i) c.loop-k.rows)) c.scaled-at_one.ensures c.sum-rows.ensures

pub returns : goal.returns
returns c = let t = c.loop-k-test.false in all_rows c.args.high.now c.args.at.now c.loop-k.rows c.max-count.result c.loop-k.k (omega arith) c.numbers_fit.ensures c.numbers_fit-2.ensures c.loop-k.invariant
