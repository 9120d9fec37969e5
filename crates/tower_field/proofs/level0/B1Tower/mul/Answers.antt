use Rattle.tower_field.proofs.Narrow.{and_is}
use Rattle.tower_field.proofs.level0.B1Tower.mul.Goals as goal

pub returns-clause-product : goal.returns-clause-product
returns-clause-product c = let h = and_is c.self.inside.bits c.other.inside.bits c.self.invariant c.other.invariant in cc
