use Rattle.std.proofs.Common.{◌∙◌, sym, arith}
use Rattle.packed_words.proofs.Packed.{fold_begun, length-folded, more_folded, all_folded}
use Rattle.packed_words.proofs.lanes.Lanes.fold.Goals as goal

pub loop-i-init : goal.loop-i-init
loop-i-init g c = fold_begun _ (g.F.Tower.number c.args.r) c.args.self c.zero-folded.result c.requires.pairs (sym c.count-i-end.ensures.length ∙ c.count-i-end.ensures.count) c.zero-folded.ensures

pub set-requires : goal.set-requires
set-requires g c =
    let e = length-folded (g.F.Tower.number c.args.r) c.args.self c.requires.pairs in
    let l = c.loop-i.invariant.long in let n = c.count-i-end.ensures.length in let t = c.loop-i-test.true in omega arith

pub loop-i-preserved : goal.loop-i-preserved
loop-i-preserved g c =
    let number = g.F.Tower.number in
    let n = c.count-i-end.ensures.length in
    let t = c.loop-i-test.true in
    more_folded c.loop-i.i (number c.add-in-loop-i.result) (number c.args.r) (number c.get-low.result) (number c.get.result) (number c.add.result) (number c.mul-change.result) c.args.self c.zero-folded.result c.loop-i.folded c.set.new.self
    c.requires.pairs (omega arith) c.get-low.ensures c.get.ensures c.add.ensures.sum c.mul-change.ensures.product c.add-in-loop-i.ensures.sum c.set.ensures c.loop-i.invariant

pub returns : goal.returns
returns g c = let n = c.count-i-end.ensures.length in let t = c.loop-i-test.false in
    all_folded c.loop-i.i _ (g.F.Tower.number c.args.r) c.args.self c.zero-folded.result c.loop-i.folded c.requires.pairs (omega arith) c.zero-folded.ensures c.loop-i.invariant
