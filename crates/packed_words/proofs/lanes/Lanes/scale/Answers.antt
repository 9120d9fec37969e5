use Rattle.std.proofs.Common.{arith}
use Rattle.std.proofs.lemmas.List.{length-map}
use Rattle.tower_laws.specs.Tower.{mul}
use Rattle.packed_words.proofs.Packed.{begun, more_multiples, all_multiples}
use Rattle.packed_words.proofs.lanes.Lanes.scale.Goals as goal

pub loop-i-init : goal.loop-i-init
loop-i-init g c = let e = length-map c.args.self (mul (g.F.Tower.number c.args.factor)) in begun _ c.args.self (omega arith)

pub get-requires : goal.get-requires
get-requires g c =
    let e = length-map c.args.self (mul (g.F.Tower.number c.args.factor)) in
    let l = c.loop-i.invariant.long in let n = c.count-i-end.ensures.length in let t = c.loop-i-test.true in omega arith

pub loop-i-preserved : goal.loop-i-preserved
loop-i-preserved g c =
    let number = g.F.Tower.number in
    let n = c.count-i-end.ensures.length in
    let t = c.loop-i-test.true in
    more_multiples c.loop-i.i (number c.mul.result) (number c.args.factor) (number c.get.result) c.args.self c.loop-i.self c.set.new.self
    (omega arith) c.get.ensures c.mul.ensures.product c.set.ensures c.loop-i.invariant

pub returns : goal.returns
returns g c = let n = c.count-i-end.ensures.length in let t = c.loop-i-test.false in all_multiples c.loop-i.i (g.F.Tower.number c.args.factor) c.args.self c.loop-i.self (omega arith) c.loop-i.invariant
