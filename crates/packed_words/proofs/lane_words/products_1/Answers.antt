use Rattle.std.proofs.Common.{arith, bit_and}
use Rattle.packed_words.proofs.LaneWords.{bits_are, crossed_from}
use Rattle.packed_words.proofs.lane_words.products_1.Goals as goal

pub returns : goal.returns
returns c =
    let a = c.args.a in
    let b = c.args.b in
    let x = c.crossed.result in
    c.combined.ensures a b (bits_are a b) (crossed_from 0 a b x (bit_and a x) (omega arith) c.crossed.ensures.low c.crossed.ensures.high (bits_are a x))
