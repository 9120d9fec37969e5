use Rattle.packed_words.specs.Packing.{lane_products}
use Rattle.packed_words.proofs.Packed.{Until}
use Rattle.packed_words.proofs.lanes.Lanes.mul_by_lanes.Given as goal

abbrev pub invariant-loop-i : goal.invariant-loop-i
invariant-loop-i g l = Until l.i (lane_products l.initial.self l.other) l.initial.self l.self
