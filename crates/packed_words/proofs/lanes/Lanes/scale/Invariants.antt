use Rattle.std.proofs.Common.{map}
use Rattle.tower_laws.specs.Tower.{mul}
use Rattle.packed_words.proofs.Packed.{Until}
use Rattle.packed_words.proofs.lanes.Lanes.scale.Given as goal

abbrev pub invariant-loop-i : goal.invariant-loop-i
invariant-loop-i g l = Until l.i (map (mul (g.F.Tower.number l.factor)) l.initial.self) l.initial.self l.self
