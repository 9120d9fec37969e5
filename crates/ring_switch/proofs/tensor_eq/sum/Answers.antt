use Rattle.std.proofs.Common.{arith, bit_xor, get_or}
use Rattle.ring_switch.proofs.TensorSteps.{all_filled, sums_are}
use Rattle.ring_switch.proofs.tensor_eq.sum.Goals as goal

pub returns : goal.returns
returns c =
    let t = c.loop-u-test.false in
    sums_are c.args.left.now c.args.right.now c.loop-u.rows c.told-left c.told-right (all_filled (λ k. bit_xor (get_or c.args.left.now k 0) (get_or c.args.right.now k 0)) c.loop-u.u c.loop-u.rows (omega arith) c.loop-u.invariant)
