use Rattle.packed_words.proofs.LaneWords.{lows_low, lows_high}
use Rattle.packed_words.proofs.lane_words.lows.Goals as goal

pub returns-clause-low : goal.returns-clause-low
returns-clause-low c = λ q l. lows_low c.args.level c.args.word q c.requires l

pub returns-clause-high : goal.returns-clause-high
returns-clause-high c = λ q l. lows_high c.args.level c.args.word q c.requires l
