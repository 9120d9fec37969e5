use Rattle.std.proofs.Common.{◌≡◌, ◌==◌, ◌∙◌, ◌+◌, cond, sym, ap, arith}
use Rattle.std.specs.List.{filter}
use Rattle.table_shape.specs.declared.shape.ConstraintShape.{ConstraintShape}
use Rattle.proof_plan.proofs.ColumnSteps.{named_counted}
use Rattle.proof_plan.proofs.constraints.named_count.Goals as goal
use Rattle.proof_plan.proofs.constraints.named_count.Goals.{then-some_names, else-some_names}

pub loop-column-preserved : goal.loop-column-preserved
loop-column-preserved c =
    let zs = filter (λ (z : ConstraintShape). z.log_values == c.args.log) c.args.constraints.now in
    let few = c.loop-column.invariant.few in
    let more : c.if-some_names.count ≡ c.loop-column.count + cond c.some_names.result 1 0 =
    elim c.if-some_names.branch [
      | then-some_names w ↦ w.count-is ∙ ap (λ b. c.loop-column.count + cond b 1 0) (sym w.if-some_names.true)
      | else-some_names w ↦ w.count-is ∙ (omega arith) ∙ ap (λ b. c.loop-column.count + cond b 1 0) (sym w.if-some_names.false)
    ] in
    record {
      count = named_counted zs c.loop-column.column c.some_names.result c.loop-column.count c.if-some_names.count c.loop-column.invariant.count c.some_names.ensures more;
      few = elim c.if-some_names.branch [ then-some_names w ↦ let e = w.count-is in omega arith | else-some_names w ↦ let e = w.count-is in omega arith ];
    }
