use Rattle.std.proofs.Common.{◌≡◌, ◌++◌, drop}
use Rattle.m3_walk.specs.Course.{constraint_stages}
use Rattle.m3_walk.proofs.constraints.push_constraints.Given as goal

abbrev pub invariant-loop-t : goal.invariant-loop-t
invariant-loop-t l = l.stages.items ++ constraint_stages l.shape.tables l.rows l.t (drop l.t l.shape.tables) ≡ l.initial.stages.items ++ constraint_stages l.shape.tables l.rows 0 l.shape.tables
