use Rattle.std.proofs.Common.{◌≡◌, ◌++◌, drop}
use Rattle.proof_plan.specs.Plan.{flushes_entries}
use Rattle.proof_plan.proofs.channels.push_all_flushes.Given as goal

abbrev pub invariant-loop-t : goal.invariant-loop-t
invariant-loop-t l = l.entries.items ++ flushes_entries l.rows l.t (drop l.t l.tables) ≡ l.initial.entries.items ++ flushes_entries l.rows 0 l.tables
