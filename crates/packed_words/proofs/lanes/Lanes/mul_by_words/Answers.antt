use Rattle.std.proofs.Common.{arith, ◌∙◌}
use Rattle.packed_words.specs.Packing.{lane_products}
use Rattle.packed_words.proofs.Packed.{lanes_of_products}
use Rattle.packed_words.proofs.lanes.Lanes.mul_by_words.Goals as goal

pub returns : goal.returns
returns g c =
    lanes_of_products g.F.Tower.LEVEL g.row.W c.self.inside.words c.other.inside.words c.loop-w.self-inside.words (λ k l. c.loop-w.invariant.done k (omega arith))
    ∙ (λ t. lane_products (c.self.view_is t) (c.other.view_is t))
