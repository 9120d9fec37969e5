use Rattle.std.proofs.Common.{arith}
use Rattle.packed_words.specs.Packing.{lane_products}
use Rattle.packed_words.proofs.Packed.{begun, lanes_long, length-products, more_products, all_products}
use Rattle.packed_words.proofs.lanes.Lanes.mul_by_lanes.Goals as goal

pub loop-i-init : goal.loop-i-init
loop-i-init g c = let e = length-products c.args.self c.args.other in begun (lane_products c.args.self c.args.other) c.args.self (omega arith)

pub get-requires : goal.get-requires
get-requires g c = let e = length-products c.args.self c.args.other in let l = c.loop-i.invariant.long in let n = c.count-i-end.ensures.length in let t = c.loop-i-test.true in omega arith

pub get-requires-in-loop-i : goal.get-requires-in-loop-i
get-requires-in-loop-i g c =
    let e = lanes_long g.F.Tower.LEVEL g.row.W c.count-i-end.result c.other.inside.words c.args.other c.other.view_is c.count-i-end.ensures.count in
    let t = c.loop-i-test.true in omega arith

pub loop-i-preserved : goal.loop-i-preserved
loop-i-preserved g c =
    let number = g.F.Tower.number in
    let n = c.count-i-end.ensures.length in
    let t = c.loop-i-test.true in
    more_products c.loop-i.i (number c.mul.result) (number c.get.result) (number c.get-in-loop-i.result) c.args.self c.args.other c.loop-i.self c.set.new.self
    (omega arith) c.get.ensures c.get-in-loop-i.ensures c.mul.ensures.product c.set.ensures c.loop-i.invariant

pub returns : goal.returns
returns g c = let n = c.count-i-end.ensures.length in let t = c.loop-i-test.false in all_products c.loop-i.i c.args.self c.args.other c.loop-i.self (omega arith) c.loop-i.invariant

pub set-requires : goal.set-requires
set-requires g c = let e = length-products c.args.self c.args.other in let l = c.loop-i.invariant.long in let n = c.count-i-end.ensures.length in let t = c.loop-i-test.true in omega arith
