use Rattle.std.proofs.Common.{◌≡◌, map, drop}
use Rattle.std.specs.List.{list_any}
use Rattle.zerocheck.specs.Group.{names}
use Rattle.zerocheck.proofs.expressions.+naming.Given as goal

abbrev pub invariant-some_names-loop-expr : goal.invariant-some_names-loop-expr
invariant-some_names-loop-expr l = list_any (λ b. b) (map (names l.column) (drop l.expr-index l.exprs)) ≡ list_any (λ b. b) (map (names l.column) l.exprs)
