use Rattle.std.proofs.Common.{◌≡◌, ◌∙◌, true, sym, subst}
use Rattle.channel_products.specs.Following.{FollowsBalance}
use Rattle.channel_tests.proofs.Channels.{balance_ends}
use Rattle.channel_tests.proofs.balances.side_by_side.Goals as goal

pub left_alike-left-requires : goal.left_alike-left-requires
left_alike-left-requires c =
    let F = c.requires.0 in
    let e : c.in_ok-passed.ended ≡ true = c.if-ended.true in
    let now = c.in_ok-passed.ensures.follows e F c.requires.1 in
    let end = balance_ends c.meet.new.prover F c.meet.new.walk now (sym e ∙ c.in_ok-passed.ensures.ends) in
    (F, end.channels, end.alpha, end.gamma, end.values, subst (FollowsBalance c.meet.new.prover F) end.is now, end.is)
