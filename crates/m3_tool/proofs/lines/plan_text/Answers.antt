use Rattle.m3_tool.proofs.CountedText.{entry_told}
use Rattle.m3_tool.proofs.lines.plan_text.Goals as goal

pub loop-number-preserved : goal.loop-number-preserved
loop-number-preserved c =
    entry_told c.args.plan.now.entries c.loop-number.number c.entry.result _ c.loop-number.text.items c.push_entry.new.text.items c.entry.ensures.entry c.loop-number.invariant c.in_ok-push_entry.ensures
