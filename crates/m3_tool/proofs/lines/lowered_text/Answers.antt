use Rattle.std.proofs.Common.{◌∙◌}
use Rattle.m3_tool.proofs.LoweredText.{all_told}
use Rattle.m3_tool.proofs.lines.lowered_text.Goals as goal

pub returns : goal.returns
returns c rows filling a g are =
    all_told c.args.shape.now rows filling a g c.args.products.now.holds c.args.products.now.pairs c.as_slice-pairs.result.now c.channels-channels.result.now c.loop-c.c c.loop-c.text.items c.as_bytes.result.now c.push.new.line.items
    c.channels-channels.ensures.all c.as_slice-pairs.ensures c.loop-c.invariant c.loop-c-test.false c.in_ok-push.ensures (c.as_bytes.ensures.value ∙ c.holds_line.ensures) are
