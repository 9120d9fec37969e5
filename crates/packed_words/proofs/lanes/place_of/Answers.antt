use Rattle.std.proofs.Common.{arith}
use Rattle.packed_words.proofs.Levels.{place_is, place_lt}
use Rattle.packed_words.proofs.lanes.place_of.Goals as goal

pub returns-clause-bit : goal.returns-clause-bit
returns-clause-bit c = place_is c.args.level c.requires c.args.i

pub returns-clause-within : goal.returns-clause-within
returns-clause-within c = let e = place_is c.args.level c.requires c.args.i in let l = place_lt c.args.level c.requires c.args.i in omega arith
