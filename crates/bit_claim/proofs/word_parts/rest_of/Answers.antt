use Rattle.std.proofs.Common.{arith}
use Rattle.bit_claim.proofs.word_parts.rest_of.Goals as goal

pub returns : goal.returns
returns c = let few = c.requires.few in omega (arith, c.saturating_sub.ensures, c.min.ensures)
