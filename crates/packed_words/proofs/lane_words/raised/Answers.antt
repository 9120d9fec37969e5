use Rattle.std.proofs.Common.{◌*◌, bit_xor, ◌∙◌, ap}
use Rattle.packed_words.specs.LaneWords.{low_at}
use Rattle.packed_words.proofs.LaneWords.{none_of_both, raised_at, xor_at}
use Rattle.packed_words.proofs.lane_words.raised.Goals as goal

pub joined-requires-clause-high_alone : goal.joined-requires-clause-high_alone
joined-requires-clause-high_alone c = λ q l. none_of_both c.args.level c.lows.result c.args.carried q (c.lows.ensures.high q l) (c.requires.alone q l)

pub returns : goal.returns
returns c =
    let i = c.args.level in
    λ q l. raised_at i c.args.word c.args.carried c.joined.result q (c.requires.carried q l) (c.joined.ensures.low q l ∙ c.highs.ensures.low q l)
    (c.joined.ensures.high q l ∙ xor_at i c.lows.result c.args.carried (2 * q) ∙ ap (λ z. bit_xor z (low_at i c.args.carried q)) (c.lows.ensures.low q l))
