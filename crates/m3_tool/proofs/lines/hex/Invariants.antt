use Rattle.std.proofs.Common.{◌≡◌, ◌-◌}
use Rattle.m3_tool.specs.Lines.{hex}
use Rattle.m3_tool.proofs.HexDigits.{hex_onto}
use Rattle.m3_tool.proofs.lines.hex.Given as goal

abbrev pub invariant-loop-digit : goal.invariant-loop-digit
invariant-loop-digit l = hex_onto (64 - l._digit) l.rest l.text.items ≡ hex l.n
