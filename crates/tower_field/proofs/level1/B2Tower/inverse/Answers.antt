use Rattle.tower_field.proofs.Narrow.{inverse_fits}
use Rattle.tower_field.proofs.level1.B2Tower.inverse.Goals as goal

pub invariant_of-result : goal.invariant_of-result
invariant_of-result c = inverse_fits 1 c.inverted.result c.self.inside.bits c.inverted.ensures c.self.invariant
