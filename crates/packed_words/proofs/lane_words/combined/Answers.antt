use Rattle.std.proofs.Common.{◌*◌, bit_xor, ◌∙◌, ap}
use Rattle.packed_words.specs.LaneWords.{low_at}
use Rattle.packed_words.proofs.LaneWords.{all_combined, none_of_both, sum_low, xor_at}
use Rattle.packed_words.proofs.lane_words.combined.Goals as goal

pub joined-requires-clause-high_alone : goal.joined-requires-clause-high_alone
joined-requires-clause-high_alone c =
    let i = c.args.level in
    λ q l. none_of_both i (bit_xor c.lows.result c.highs.result) c.args.carried q (none_of_both i c.lows.result c.highs.result q (c.lows.ensures.high q l) (c.highs.ensures.high q l)) (c.requires.carried.high q l)

pub joined-requires-clause-low_alone : goal.joined-requires-clause-low_alone
joined-requires-clause-low_alone c = λ q l. none_of_both c.args.level c.lows-2.result c.highs-2.result q (c.lows-2.ensures.high q l) (c.highs-2.ensures.high q l)

pub returns : goal.returns
returns c =
    let i = c.args.level in
    λ a b straight crossed.
    all_combined i a b c.args.straight c.args.crossed c.args.carried c.joined.result c.requires.is_below c.requires.carried
    (λ q l. c.joined.ensures.low q l ∙ sum_low i c.lows-2.result c.highs-2.result c.args.straight q (c.lows-2.ensures.low q l) (c.highs-2.ensures.low q l))
    (λ q l. c.joined.ensures.high q l ∙ xor_at i (bit_xor c.lows.result c.highs.result) c.args.carried (2 * q)
    ∙ ap (λ z. bit_xor z (low_at i c.args.carried q)) (sum_low i c.lows.result c.highs.result c.args.crossed q (c.lows.ensures.low q l) (c.highs.ensures.low q l)))
    straight crossed
