use Rattle.std.proofs.Common.{◌/◌, arith, subst, sym}
use Rattle.ring_switch.proofs.BitSteps.{Weighing, all_bits, bit_clear, bit_set, no_bit}
use Rattle.ring_switch.proofs.bit_weights.bits_under.Goals.{then-rest-eq1, else-rest-eq1}
use Rattle.ring_switch.proofs.bit_weights.bits_under.Goals as goal

pub loop-weight-init : goal.loop-weight-init
loop-weight-init c = no_bit c.args.number c.args.weights.now

pub loop-weight-preserved : goal.loop-weight-preserved
loop-weight-preserved c =
    let ws = c.args.weights.now in
    let i = c.loop-weight.weight-index in
    let l = c.loop-weight-test.true in
    elim c.if-rest-eq1.branch [
      | then-rest-eq1 w ↦
          subst (Weighing c.args.number ws _ (c.loop-weight.rest / 2)) (sym w.total-is)
          (bit_set c.args.number ws i c.loop-weight.rest c.loop-weight.total c.weight-item.result _ l c.weight-item.is w.if-rest-eq1.true w.add-total.ensures c.loop-weight.invariant)
      | else-rest-eq1 w ↦
          subst (Weighing c.args.number ws _ (c.loop-weight.rest / 2)) (sym w.total-is)
          (bit_clear c.args.number ws i c.loop-weight.rest c.loop-weight.total c.weight-item.result l c.weight-item.is (let t = w.if-rest-eq1.false in omega arith) c.loop-weight.invariant)
    ]

pub returns : goal.returns
returns c = all_bits c.args.number c.args.weights.now c.loop-weight.weight-index c.loop-weight.rest c.loop-weight.total c.loop-weight-test.false c.loop-weight.invariant
