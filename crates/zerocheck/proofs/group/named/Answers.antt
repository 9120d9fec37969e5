use Rattle.std.proofs.Common.{◌≡◌, ◌==◌, ◌++◌, ◌∷◌, [], ◌∙◌, ap, arith, Vec, Global, ℕ}
use Rattle.std.proofs.lemmas.Grind.{common_steps}
use Rattle.std.specs.List.{filter}
use Rattle.table_shape.specs.declared.shape.ConstraintShape.{ConstraintShape}
use Rattle.zerocheck.proofs.GroupSteps.{named_taken, named_left}
use Rattle.zerocheck.proofs.group.named.Goals as goal
use Rattle.zerocheck.proofs.group.named.Goals.{then-some_names+else-is_err, else-some_names}

pub loop-c-preserved : goal.loop-c-preserved
loop-c-preserved c =
    let zs = filter (λ (z : ConstraintShape). z.log_values == c.args.log_values) c.args.constraints.now in
    elim c.if-some_names.branch [
      | then-some_names+else-is_err w ↦
          let p : w.push.new.self.items ≡ c.loop-c.columns.items ++ c.loop-c.c ∷ [] = grind (arith, common_steps) in
          named_taken zs c.loop-c.c c.some_names.result c.loop-c.columns.items c.if-some_names.columns.items c.loop-c.invariant c.some_names.ensures w.if-some_names.true (ap (λ (v : Vec ℕ Global). v.items) w.columns-is ∙ p)
      | else-some_names w ↦ named_left zs c.loop-c.c c.some_names.result c.if-some_names.columns.items (ap (λ (v : Vec ℕ Global). v.items) w.columns-is ∙ c.loop-c.invariant) c.some_names.ensures w.if-some_names.false
    ]
