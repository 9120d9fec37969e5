use Rattle.std.proofs.Common.{◌≡◌, ◌++◌, drop}
use Rattle.m3_tool.specs.Lines.{draw_lines}
use Rattle.m3_tool.proofs.lines.plan_text.Given as goal

-- the lines so far and those of the entries that are left
abbrev pub invariant-loop-number : goal.invariant-loop-number
invariant-loop-number l = l.text.items ++ draw_lines l.number (drop l.number l.plan.entries) ≡ draw_lines 0 l.plan.entries
