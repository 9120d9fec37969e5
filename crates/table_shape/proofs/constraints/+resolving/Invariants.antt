use Rattle.std.proofs.Common.{◌≡◌, ◌++◌, map, drop}
use Rattle.std.specs.Option.{option_map}
use Rattle.table_shape.specs.Shape.{resolved, all_some}
use Rattle.table_shape.proofs.constraints.+resolving.Given as goal

abbrev pub invariant-all_resolved-loop-expr : goal.invariant-all_resolved-loop-expr
invariant-all_resolved-loop-expr l =
    option_map (λ more. l.found ++ more) (all_some (map (resolved l.table.columns) (drop l.expr-index l.exprs))) ≡ all_some (map (resolved l.table.columns) l.exprs)
