use Rattle.std.proofs.Common.{◌≡◌, ◌∙◌, true, sym, subst, arith}
use Rattle.eval_reduce.specs.Pack.{PackIsDone}
use Rattle.eval_reduce.specs.Provers.{FollowsPack}
use Rattle.eval_reduce.proofs.Starts.{packed_ends}
use Rattle.reduction_tests.proofs.virtual_columns.meet_packed.Goals as goal

pub claim-requires : goal.claim-requires
claim-requires c =
    let F = c.requires.0 in
    let e : c.in_ok-passed.ended ≡ true = cc in
    let now = c.in_ok-passed.ensures.follows e F c.requires.1 in
    let end = packed_ends c.meet.new.prover F c.meet.new.walk now (sym e ∙ c.in_ok-passed.ensures.ends) in
    (F, end.0, subst (FollowsPack c.meet.new.prover F) end.1 now, omega arith)

pub claim-requires-2-clause-done : goal.claim-requires-2-clause-done
claim-requires-2-clause-done c =
    let F = c.requires.0 in
    let e : c.in_ok-passed.ended ≡ true = cc in
    let now = c.in_ok-passed.ensures.follows e F c.requires.1 in
    subst PackIsDone (sym (packed_ends c.meet.new.prover F c.meet.new.walk now (sym e ∙ c.in_ok-passed.ensures.ends)).1) tt
