use Rattle.proof_plan.proofs.EntrySteps.{switch_pushed}
use Rattle.proof_plan.proofs.words.push_switch_rounds.Goals as goal

pub loop-round-preserved : goal.loop-round-preserved
loop-round-preserved c =
    switch_pushed c.loop-round.round c.args.entries.now.items c.loop-round.entries.items c.push_root.new.entries.items c.push.new.self.items c.push-in-loop-round.new.self.items c.loop-round.invariant c.in_ok-push_root.ensures c.in_ok-push.ensures.items
    c.in_ok-push-2.ensures.items
