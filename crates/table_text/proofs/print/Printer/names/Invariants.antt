use Rattle.std.proofs.Common.{◌≡◌, ◌++◌, drop}
use Rattle.std.specs.Prelude.{codes}
use Rattle.std.specs.List.{flat_map}
use Rattle.table_text.specs.Canonical.{joined}
use Rattle.table_text.proofs.print.Printer.names.Given as goal

-- the text so far and the names that are left make the whole text
abbrev pub invariant-loop-name : goal.invariant-loop-name
invariant-loop-name l = l.self ++ flat_map (λ u. codes ", " ++ u) (drop l.name-index l.others) ≡ l.fn.self ++ joined (codes ", ") l.names
