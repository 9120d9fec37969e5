use Rattle.std.proofs.Common.{◌≡◌, ◌++◌, drop}
use Rattle.m3_tool.proofs.LoweredText.{pair_lines}
use Rattle.m3_tool.proofs.lines.lowered_text.Given as goal

-- the lines so far and those of the channels that are left
abbrev pub invariant-loop-c : goal.invariant-loop-c
invariant-loop-c l = l.text.items ++ pair_lines (drop l.c l.channels) (drop l.c l.pairs) ≡ pair_lines l.channels l.pairs
