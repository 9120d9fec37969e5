use Rattle.std.proofs.Common.{◌∙◌, ◌++◌, ◌∷◌, [], ap}
use Rattle.proof_plan.specs.declared.plan_entry.PlanEntry.TheVariants.{Draw}
use Rattle.proof_plan.proofs.EntrySteps.{round_pushed}
use Rattle.proof_plan.proofs.rounds.push_rounds.Goals as goal

pub loop-preserved : goal.loop-preserved
loop-preserved c =
    round_pushed c.args.kind c.args.degree c.loop.counter c.args.entries.now.items c.loop.entries.items c.push.new.self.items c.push-in-loop.new.self.items c.loop.invariant c.in_ok-push.ensures.items (c.in_ok-push-2.ensures.items ∙ ap (λ n. c.push.new.self.items ++ Draw c.args.kind n ∷ []) c.from.ensures)
