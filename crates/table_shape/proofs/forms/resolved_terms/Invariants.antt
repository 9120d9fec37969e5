use Rattle.std.proofs.Common.{◌≡◌, ◌++◌, map, drop}
use Rattle.std.specs.Option.{option_map}
use Rattle.table_shape.specs.Shape.{resolved_term, all_some}
use Rattle.table_shape.proofs.forms.resolved_terms.Given as goal

abbrev pub invariant-loop-term : goal.invariant-loop-term
invariant-loop-term l =
    option_map (λ more. l.found ++ more) (all_some (map (resolved_term l.table.columns) (drop l.term-index l.terms))) ≡ all_some (map (resolved_term l.table.columns) l.terms)
