use Rattle.std.proofs.Common.{◌≡◌, map, drop}
use Rattle.table_shape.specs.Width.{first_some, first_width}
use Rattle.table_shape.proofs.width.+first.Given as goal

abbrev pub invariant-first_width_of-loop-expr : goal.invariant-first_width_of-loop-expr
invariant-first_width_of-loop-expr l = first_some (map (first_width l.columns) (drop l.expr-index l.exprs)) ≡ first_some (map (first_width l.columns) l.exprs)
