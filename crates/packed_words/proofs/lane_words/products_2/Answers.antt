use Rattle.std.proofs.Common.{arith}
use Rattle.packed_words.proofs.LaneWords.{crossed_from}
use Rattle.packed_words.proofs.lane_words.products_2.Goals as goal

pub returns : goal.returns
returns c =
    let a = c.args.a in
    let b = c.args.b in
    let x = c.crossed.result in
    c.combined.ensures a b c.products_1-straight.ensures (crossed_from 1 a b x c.products_1.result (omega arith) c.crossed.ensures.low c.crossed.ensures.high c.products_1.ensures)
