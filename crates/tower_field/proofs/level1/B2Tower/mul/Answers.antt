use Rattle.tower_field.proofs.Narrow.{product_fits}
use Rattle.tower_field.proofs.level1.B2Tower.mul.Goals as goal

pub invariant_of-result : goal.invariant_of-result
invariant_of-result c = product_fits 1 c.times.result c.self.inside.bits c.other.inside.bits c.times.ensures c.self.invariant c.other.invariant

pub returns-clause-fits : goal.returns-clause-fits
returns-clause-fits c = product_fits 1 c.times.result c.self.inside.bits c.other.inside.bits c.times.ensures c.self.invariant c.other.invariant
