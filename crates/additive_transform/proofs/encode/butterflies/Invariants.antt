use Rattle.additive_transform.proofs.Butterflies.{Mixed}
use Rattle.additive_transform.proofs.encode.butterflies.Given as goal

abbrev pub invariant-loop-i : goal.invariant-loop-i
invariant-loop-i l = Mixed l.point l.i l.initial.low l.initial.high l.low l.high
