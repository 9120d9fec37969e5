use Rattle.std.proofs.Common.{◌≡◌, ◌++◌, map, drop}
use Rattle.zerocheck.specs.Group.{form_on}
use Rattle.zerocheck.proofs.expressions.+forming.Given as goal

abbrev pub invariant-forms_on-loop-expr : goal.invariant-forms_on-loop-expr
invariant-forms_on-loop-expr l = l.forms ++ map (form_on l.columns) (drop l.expr-index l.exprs) ≡ map (form_on l.columns) l.exprs
