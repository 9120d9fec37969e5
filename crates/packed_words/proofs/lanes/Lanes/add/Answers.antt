use Rattle.std.proofs.Common.{arith, ◌∙◌}
use Rattle.packed_words.specs.Packing.{lane_sums}
use Rattle.packed_words.proofs.Packed.{lanes_of_sums}
use Rattle.packed_words.proofs.lanes.Lanes.add.Goals as goal

pub returns : goal.returns
returns g c =
    lanes_of_sums g.F.Tower.LEVEL g.row.W c.self.inside.words c.other.inside.words c.loop-w.self-inside.words (λ k l. c.loop-w.invariant.done k (omega arith))
    ∙ (λ t. lane_sums (c.self.view_is t) (c.other.view_is t))
