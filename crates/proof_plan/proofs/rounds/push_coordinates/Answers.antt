use Rattle.proof_plan.proofs.EntrySteps.{coordinate_pushed}
use Rattle.proof_plan.proofs.rounds.push_coordinates.Goals as goal

pub loop-preserved : goal.loop-preserved
loop-preserved c = coordinate_pushed c.args.kind c.loop.counter c.args.entries.now.items c.loop.entries.items c.push.new.self.items c.loop.invariant c.in_ok-push.ensures.items
