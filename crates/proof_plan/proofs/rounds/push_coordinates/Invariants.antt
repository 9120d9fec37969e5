use Rattle.std.proofs.Common.{◌≡◌, ◌++◌}
use Rattle.proof_plan.specs.Plan.{coordinates}
use Rattle.proof_plan.proofs.rounds.push_coordinates.Given as goal

abbrev pub invariant-loop : goal.invariant-loop
invariant-loop l = l.entries.items ≡ l.initial.entries.items ++ coordinates l.kind l.counter
