use Rattle.std.proofs.Common.{◌≡◌, ◌++◌, ◌-◌}
use Rattle.proof_plan.specs.Plan.{layer_entries}
use Rattle.proof_plan.proofs.channels.push_layers.Given as goal

abbrev pub invariant-loop-layer : goal.invariant-loop-layer
invariant-loop-layer l = l.entries.items ++ layer_entries l.columns l.layer (l.vars - l.layer) ≡ l.initial.entries.items ++ layer_entries l.columns 0 l.vars
