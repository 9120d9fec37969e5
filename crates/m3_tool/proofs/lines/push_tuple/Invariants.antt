use Rattle.std.proofs.Common.{◌≡◌, ◌++◌, map, drop}
use Rattle.std.specs.Prelude.{codes}
use Rattle.std.specs.List.{flat_map}
use Rattle.table_text.specs.Canonical.{joined}
use Rattle.m3_tool.specs.Lines.{value_text}
use Rattle.m3_tool.proofs.lines.push_tuple.Given as goal

abbrev pub invariant-loop-value : goal.invariant-loop-value
invariant-loop-value l =
    l.line.items ++ flat_map (λ u. codes ", " ++ u) (map value_text (drop l.value-index l.others)) ≡ l.fn.line.items ++ joined (codes ", ") (map value_text l.fn.tuple)
