use Rattle.packed_words.proofs.LaneWords.{carried_first}
use Rattle.packed_words.proofs.lane_words.carried_0.Goals as goal

pub returns : goal.returns
returns c = carried_first c.args.word c.highs.result c.highs.ensures.low c.highs.ensures.high
