use Rattle.std.proofs.Common.{◌≡◌, ◌∙◌, true, sym, subst}
use Rattle.bit_claim.specs.BatchFollowing.{FollowsBatch}
use Rattle.bit_tests.proofs.Batches.{batch_ends}
use Rattle.bit_tests.proofs.bit_claims.side_by_side.Goals as goal

pub left_alike-left-requires : goal.left_alike-left-requires
left_alike-left-requires c =
    let F = c.requires.0 in
    let e : c.in_ok-passed.ended ≡ true = c.if-ended.true in
    let now = c.in_ok-passed.ensures.follows e F c.requires.1 in
    let end = batch_ends c.meet.new.prover c.meet.new.prover.sum F c.meet.new.walk now (sym c.in_ok-passed.ensures.ends ∙ e) in
    (F, end.0, subst (FollowsBatch c.meet.new.prover F) end.1 now, end.1)
