use Rattle.tower_field.proofs.Narrow.{sum_fits}
use Rattle.tower_field.proofs.level2.B4Tower.add.Goals as goal

pub invariant_of-result : goal.invariant_of-result
invariant_of-result c = sum_fits 2 c.plus.result c.self.inside.bits c.other.inside.bits c.plus.ensures c.self.invariant c.other.invariant

pub returns-clause-fits : goal.returns-clause-fits
returns-clause-fits c = sum_fits 2 c.plus.result c.self.inside.bits c.other.inside.bits c.plus.ensures c.self.invariant c.other.invariant
