use Rattle.ring_switch.proofs.CombiningSteps.{Mapped, under}
use Rattle.ring_switch.proofs.combining.combine.Given as goal

abbrev pub invariant-loop-i : goal.invariant-loop-i
invariant-loop-i l = Mapped (under l.fn.weights) l.i l.fn.cells.items l.cells.items
