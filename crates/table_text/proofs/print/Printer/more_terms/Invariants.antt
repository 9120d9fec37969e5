use Rattle.std.proofs.Common.{◌≡◌, ◌++◌, drop, map}
use Rattle.std.specs.Prelude.{codes}
use Rattle.std.specs.List.{flat_map}
use Rattle.table_text.specs.Canonical.{term_text}
use Rattle.table_text.proofs.print.Printer.more_terms.Given as goal

-- the text so far and the terms that are left make the whole text
abbrev pub invariant-loop-term : goal.invariant-loop-term
invariant-loop-term l = l.self ++ flat_map (λ t. codes " + " ++ t) (map term_text (drop l.term-index l.terms)) ≡ l.fn.self ++ flat_map (λ t. codes " + " ++ t) (map term_text l.terms)
