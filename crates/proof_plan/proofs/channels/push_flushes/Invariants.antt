use Rattle.std.proofs.Common.{◌≡◌, ◌++◌, drop}
use Rattle.std.specs.List.{flat_map}
use Rattle.proof_plan.specs.Plan.{flush_entries}
use Rattle.proof_plan.proofs.channels.push_flushes.Given as goal

abbrev pub invariant-loop-flush : goal.invariant-loop-flush
invariant-loop-flush l = l.entries.items ++ flat_map (flush_entries l.rows) (drop l.flush-index l.flushes) ≡ l.initial.entries.items ++ flat_map (flush_entries l.rows) l.flushes
