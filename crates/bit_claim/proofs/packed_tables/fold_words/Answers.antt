use Rattle.std.proofs.Common.{◌≡◌, ◌^◌, ◌++◌, ◌∷◌, [], refl, length, map, ap, ◌∙◌, arith}
use Rattle.std.proofs.lemmas.Grind.{common_steps}
use Rattle.cube_laws.specs.Extension.{weights}
use Rattle.cube_laws.proofs.Folding.{length-weights}
use Rattle.bit_claim.proofs.LowHigh.{bits_under, fold_done, fold_more, word_under}
use Rattle.bit_claim.proofs.packed_tables.fold_words.Goals as goal

pub new-requires : goal.new-requires
new-requires c = ap length c.in_ok-corner_weights.ensures ∙ length-weights c.args.draws.now ∙ ap (λ n. 2 ^ n) c.requires

pub loop-word-init : goal.loop-word-init
loop-word-init c = ap (λ l. l ++ map (bits_under (weights c.args.draws.now)) c.args.words.now) c.in_ok-made.ensures.items

pub loop-word-preserved : goal.loop-word-preserved
loop-word-preserved c =
    let pushed : c.push.new.self.items ≡ c.loop-word.made.items ++ c.sum-set.result ∷ [] = grind (arith, common_steps) in
    let ws = c.in_ok-weights.ensures ∙ c.in_ok-corner_weights.ensures in
    fold_more (weights c.args.draws.now) c.args.words.now c.loop-word.word-index c.word-item.result c.sum-set.result c.loop-word.made.items c.push.new.self.items c.loop-word-test.true c.word-item.is
    (word_under c.in_ok-weights.weights c.word-item.result c.sum-set.result c.sum-set.ensures ∙ ap (λ l. bits_under l c.word-item.result) ws) pushed c.loop-word.invariant

pub returns : goal.returns
returns c = fold_done (weights c.args.draws.now) c.args.draws.now c.args.words.now c.loop-word.word-index c.loop-word.made.items c.loop-word-test.false c.requires refl c.loop-word.invariant
