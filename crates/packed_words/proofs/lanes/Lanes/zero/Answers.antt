use Rattle.packed_words.proofs.Packed.{zero_lanes}
use Rattle.packed_words.proofs.lanes.Lanes.zero.Goals as goal

pub returns : goal.returns
returns g c = zero_lanes g.F.Tower.LEVEL g.row.W
