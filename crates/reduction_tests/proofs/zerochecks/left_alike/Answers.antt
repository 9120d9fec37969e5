use Rattle.std.proofs.Common.{◌∙◌, ◌<◌, sym, subst}
use Rattle.zerocheck.specs.Zero.{ZeroIsDone}
use Rattle.reduction_tests.proofs.Ends.{pending_count}
use Rattle.reduction_tests.proofs.zerochecks.left_alike.Goals as goal

pub claim_count-count-requires : goal.claim_count-count-requires
claim_count-count-requires c = subst ZeroIsDone (sym c.requires.3) tt

pub claim_count-requires : goal.claim_count-requires
claim_count-requires c = (c.requires.0, c.requires.1, c.requires.2)

pub claim-requires : goal.claim-requires
claim-requires c =
    let here = pending_count c.requires.1 c.args.walk.now c.requires.3 in
    (c.requires.0, c.requires.1, c.requires.2, subst (λ n. c.loop-i.i < n) (c.claim_count-count.ensures ∙ here) c.loop-i-test.true)

pub claim-requires-in-loop-i-clause-done : goal.claim-requires-in-loop-i-clause-done
claim-requires-in-loop-i-clause-done c = subst ZeroIsDone (sym c.requires.3) tt

pub claim-requires-in-loop-i-clause-within : goal.claim-requires-in-loop-i-clause-within
claim-requires-in-loop-i-clause-within c = subst (λ n. c.loop-i.i < n) c.claim_count-count.ensures c.loop-i-test.true
