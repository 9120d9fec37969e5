use Rattle.std.proofs.Common.{◌++◌}
use Rattle.proof_plan.specs.Plan.{layer_entries}
use Rattle.proof_plan.proofs.EntrySteps.{layer_pushed}
use Rattle.proof_plan.proofs.channels.push_layers.Goals as goal

pub loop-layer-preserved : goal.loop-layer-preserved
loop-layer-preserved c =
    layer_pushed c.args.columns c.loop-layer.layer c.args.vars (c.args.entries.now.items ++ layer_entries c.args.columns 0 c.args.vars) c.loop-layer.entries.items c.push_rounds.new.entries.items c.push.new.self.items c.push-in-loop-layer.new.self.items
    c.loop-layer-test.true c.loop-layer.invariant c.in_ok-push_rounds.ensures c.in_ok-push.ensures.items c.in_ok-push-2.ensures.items
