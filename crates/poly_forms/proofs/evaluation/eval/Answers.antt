use Rattle.poly_forms.proofs.Steps.{one_more}
use Rattle.poly_forms.proofs.evaluation.eval.Goals as goal

pub loop-coefficient-preserved : goal.loop-coefficient-preserved
loop-coefficient-preserved c =
    one_more (λ r. r.now) c.loop-coefficient.yielded c.in-Some.coefficient c.args.x c.loop-coefficient.value c.mul.result c.add-value.result c.loop-coefficient.invariant c.mul.ensures c.add-value.ensures
