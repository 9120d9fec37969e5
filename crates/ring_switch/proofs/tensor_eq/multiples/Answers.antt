use Rattle.std.proofs.Common.{arith, get_or}
use Rattle.tower_laws.specs.Tower.{mul}
use Rattle.ring_switch.proofs.TensorSteps.{all_filled, products_are}
use Rattle.ring_switch.proofs.tensor_eq.multiples.Goals as goal

pub returns : goal.returns
returns c =
    let t = c.loop-u-test.false in
    products_are c.args.c c.args.elements.now c.loop-u.products c.told-elements (all_filled (λ k. mul c.args.c (get_or c.args.elements.now k 0)) c.loop-u.u c.loop-u.products (omega arith) c.loop-u.invariant)
