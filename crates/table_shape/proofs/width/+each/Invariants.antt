use Rattle.std.proofs.Common.{◌≡◌, map, drop}
use Rattle.std.specs.List.{list_all}
use Rattle.table_shape.specs.Width.{has_width}
use Rattle.table_shape.proofs.width.+each.Given as goal

abbrev pub invariant-each_has_width-loop-expr : goal.invariant-each_has_width-loop-expr
invariant-each_has_width-loop-expr l =
    list_all (λ b. b) (map (has_width l.columns l.log_values) (drop l.expr-index l.exprs)) ≡ list_all (λ b. b) (map (has_width l.columns l.log_values) l.exprs)
