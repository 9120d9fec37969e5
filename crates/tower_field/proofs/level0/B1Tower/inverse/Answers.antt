use Rattle.tower_field.proofs.Narrow.{bit_inverse}
use Rattle.tower_field.proofs.level0.B1Tower.inverse.Goals as goal

pub returns-else-self-eq0-clause-inverse : goal.returns-else-self-eq0-clause-inverse
returns-else-self-eq0-clause-inverse c = let h = bit_inverse c.self.inside.bits c.self.invariant c.if-self-eq0.false in cc
