use Rattle.std.proofs.Common.{◌≡◌, ◌≤◌, [], vec_capacity, Vec, Global}
use Rattle.std.proofs.lemmas.List.Elements.{All-take}
use Rattle.tower_field.specs.declared.level7.B128.{B128}
use Rattle.sumcheck.proofs.points.Points.copy.Goals as goal

pub invariant_of-self : goal.invariant_of-self
invariant_of-self c =
    rw c.pop.ensures.rest (All-take {X = Vec B128 Global} (λ v. (v.items ≡ []) × (c.self.inside.vars ≤ vec_capacity v)) _ c.self.inside.points.items c.self.invariant)
