use Rattle.std.proofs.Common.{◌≡◌, ◌==◌, ◌∙◌, ◌++◌, ◌∷◌, [], cond, ap, List, Vec, Global, ℕ}
use Rattle.std.specs.List.{filter, list_any}
use Rattle.table_shape.specs.Counts.{group}
use Rattle.table_shape.specs.declared.shape.ConstraintShape.{ConstraintShape}
use Rattle.zerocheck.specs.Group.{names}
use Rattle.proof_plan.proofs.ColumnSteps.{column_left, column_pushed, named_at}
use Rattle.proof_plan.proofs.constraints.push_group_columns.Goals as goal
use Rattle.proof_plan.proofs.constraints.push_group_columns.Goals.{then-some_names+in_ok-push, else-some_names}

pub loop-column-preserved : goal.loop-column-preserved
loop-column-preserved c =
    let zs = group c.args.log c.args.table.now in
    let named = c.some_names.ensures ∙ ap (λ (all : List ConstraintShape). list_any (λ (z : ConstraintShape). names c.loop-column.column z.expr) (filter (λ (z : ConstraintShape). z.log_values == c.args.log) all)) c.as_slice.ensures in
    let more : c.if-some_names.claimed.items ≡ c.loop-column.claimed.items ++ cond c.some_names.result (c.loop-column.column ∷ []) [] =
    elim c.if-some_names.branch [
      | then-some_names+in_ok-push w ↦ column_pushed c.loop-column.column c.some_names.result c.loop-column.claimed.items c.if-some_names.claimed.items w.if-some_names.true (ap (λ (v : Vec ℕ Global). v.items) w.claimed-is ∙ w.in_ok-push.ensures.items)
      | else-some_names w ↦ column_left c.loop-column.column c.some_names.result c.loop-column.claimed.items c.if-some_names.claimed.items w.if-some_names.false (ap (λ (v : Vec ℕ Global). v.items) w.claimed-is)
    ] in
    named_at zs c.loop-column.column c.some_names.result c.args.claimed.now.items c.loop-column.claimed.items c.if-some_names.claimed.items c.loop-column.invariant named more
