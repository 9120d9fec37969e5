use Rattle.std.proofs.Common.{◌≡◌, ◌++◌, drop, map}
use Rattle.std.specs.Prelude.{codes}
use Rattle.std.specs.List.{flat_map}
use Rattle.std.specs.Fmt.{decimal}
use Rattle.table_text.specs.Canonical.{joined}
use Rattle.table_text.proofs.print.Printer.numbers.Given as goal

-- the text so far and the numbers that are left make the whole text
abbrev pub invariant-loop-number : goal.invariant-loop-number
invariant-loop-number l = l.self ++ flat_map (λ u. codes ", " ++ u) (map decimal (drop l.number-index l.others)) ≡ l.fn.self ++ joined (codes ", ") (map decimal l.numbers)
