use Rattle.std.proofs.Common.{◌≡◌, ◌*◌, ◌/◌, length, arith, ◌∙◌, ap, bit_xor}
use Rattle.tower_laws.specs.Tower.{mul}
use Rattle.packed_words.proofs.InPlace.{none_folded, more_folded, all_folded}
use Rattle.packed_words.proofs.multiples.Multiples.fold_low.Goals as goal

pub loop-i-init : goal.loop-i-init
loop-i-init c = let h = c.requires.pairs in let e = c.len-half.ensures in let l = c.args.table.now.ok.0 in let q : length c.args.table.now.items ≡ 2 * (c.len-half.result / 2) = omega arith in none_folded c.args.self.now (c.len-half.result / 2) c.args.table.now.items q

pub loop-i-preserved : goal.loop-i-preserved
loop-i-preserved c = more_folded c.args.self.now (c.len-half.result / 2) c.loop-i.i c.args.table.now.items c.loop-i.table.items c.index-low.result.now c.index.result.now c.add-in-loop-i.result c.loop-i-test.true c.loop-i.invariant c.index-low.ensures c.index.ensures
    (c.add-in-loop-i.ensures ∙ ap (bit_xor c.index-low.result.now) c.times.ensures ∙ ap (λ w. bit_xor c.index-low.result.now (mul c.args.self.now w)) c.add.ensures)

pub returns : goal.returns
returns c = c.truncate.ensures.items ∙ all_folded c.args.self.now (c.len-half.result / 2) c.loop-i.i _ _ (omega arith) c.loop-i.invariant
