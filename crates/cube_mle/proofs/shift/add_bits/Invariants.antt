use Rattle.std.proofs.Common.{drop}
use Rattle.cube_mle.proofs.Adding.{Added}
use Rattle.cube_mle.proofs.shift.add_bits.Given as goal

abbrev pub invariant-loop-k : goal.invariant-loop-k
invariant-loop-k l = Added l.fn.offset l.y l.x l.rest l.carries.without l.carries.with (drop l.k l.y) (drop l.k l.x)
