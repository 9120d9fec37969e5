use Rattle.std.proofs.Common.{◌≡◌, ◌++◌}
use Rattle.proof_plan.specs.Plan.{switch_rounds}
use Rattle.proof_plan.proofs.words.push_switch_rounds.Given as goal

abbrev pub invariant-loop-round : goal.invariant-loop-round
invariant-loop-round l = l.entries.items ≡ l.initial.entries.items ++ switch_rounds l.round
