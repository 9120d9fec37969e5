use Rattle.std.proofs.Common.{bit_and, sym, subst}
use Rattle.packed_words.specs.LaneWords.{AreProducts}
use Rattle.packed_words.proofs.LaneWords.{bits_are}
use Rattle.packed_words.proofs.lane_words.products_in_words.Goals as goal

pub returns-in-0 : goal.returns-in-0
returns-in-0 c = subst (λ i. AreProducts i c.args.a c.args.b (bit_and c.args.a c.args.b)) (sym c.in-0.is) (bits_are c.args.a c.args.b)
