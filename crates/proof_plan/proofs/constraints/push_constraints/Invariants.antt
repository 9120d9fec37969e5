use Rattle.std.proofs.Common.{◌≡◌, ◌++◌, drop}
use Rattle.proof_plan.specs.Plan.{constraint_entries}
use Rattle.proof_plan.proofs.constraints.push_constraints.Given as goal

abbrev pub invariant-loop-t : goal.invariant-loop-t
invariant-loop-t l = l.entries.items ++ constraint_entries l.rows l.t (drop l.t l.tables) ≡ l.initial.entries.items ++ constraint_entries l.rows 0 l.tables
