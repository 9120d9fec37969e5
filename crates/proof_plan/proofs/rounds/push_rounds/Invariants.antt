use Rattle.std.proofs.Common.{◌≡◌, ◌++◌}
use Rattle.proof_plan.specs.Plan.{rounds}
use Rattle.proof_plan.proofs.rounds.push_rounds.Given as goal

abbrev pub invariant-loop : goal.invariant-loop
invariant-loop l = l.entries.items ≡ l.initial.entries.items ++ rounds l.kind l.degree l.counter
