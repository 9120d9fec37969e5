use Rattle.std.proofs.Common.{arith}
use Rattle.eval_reduce.proofs.ListSteps.{not_below, too_long}
use Rattle.eval_reduce.proofs.lists.is_power.Goals as goal

pub returns-else-vars-lt64 : goal.returns-else-vars-lt64
returns-else-vars-lt64 c =
    let few = c.ranges.size in
    let far = c.if-vars-lt64.false in
    ((λ e. absurd (not_below c.args.vars far e)), (λ e. absurd (too_long c.args.size c.args.vars (omega arith) far e)))
