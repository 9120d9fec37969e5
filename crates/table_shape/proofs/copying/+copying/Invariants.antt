use Rattle.std.proofs.Common.{◌≡◌, ◌++◌, drop}
use Rattle.table_shape.proofs.copying.+copying.Given as goal

abbrev pub invariant-copied_exprs-loop-expr : goal.invariant-copied_exprs-loop-expr
invariant-copied_exprs-loop-expr l = l.copies ++ drop l.expr-index l.exprs ≡ l.exprs
