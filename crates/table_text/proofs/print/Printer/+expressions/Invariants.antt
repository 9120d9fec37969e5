use Rattle.std.proofs.Common.{◌≡◌, ◌++◌, drop, map}
use Rattle.std.specs.List.{flat_map}
use Rattle.table_text.specs.Canonical.{joined, expr_text}
use Rattle.table_text.proofs.print.Printer.+expressions.Given as goal

-- the text so far and the parts that are left make the whole text
abbrev pub invariant-members-loop-part : goal.invariant-members-loop-part
invariant-members-loop-part l =
    l.self ++ flat_map (λ u. l.sign ++ u) (map (λ part. expr_text part l.place) (drop l.part-index l.others)) ≡ l.fn.self ++ joined l.sign (map (λ part. expr_text part l.place) l.parts)
