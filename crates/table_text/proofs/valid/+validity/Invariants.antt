use Rattle.std.proofs.Common.{◌≡◌, map, drop}
use Rattle.std.specs.List.{list_all}
use Rattle.table_text.specs.Valid.{is_valid_expr}
use Rattle.table_text.proofs.valid.+validity.Given as goal

abbrev pub invariant-are_valid_exprs-loop-expr : goal.invariant-are_valid_exprs-loop-expr
invariant-are_valid_exprs-loop-expr l = list_all (λ b. b) (map is_valid_expr (drop l.expr-index l.exprs)) ≡ list_all (λ b. b) (map is_valid_expr l.exprs)
