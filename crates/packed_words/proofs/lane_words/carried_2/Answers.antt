use Rattle.std.proofs.Common.{arith}
use Rattle.packed_words.proofs.LaneWords.{carried_next}
use Rattle.packed_words.proofs.lane_words.carried_2.Goals as goal

pub returns : goal.returns
returns c = carried_next 2 c.args.word c.highs-high.result c.raised.result (omega arith) c.highs-high.ensures.low c.highs-high.ensures.high c.raised.ensures
