use Rattle.std.proofs.Common.{◌∙◌, sym}
use Rattle.reduction_tests.proofs.zerochecks.meets.Goals as goal

pub has_lists-requires-clause-some : goal.has_lists-requires-clause-some
has_lists-requires-clause-some c = sym (c.has_group.ensures c.args.rows) ∙ c.if-not-has_group.false

pub begun-requires-clause-some : goal.begun-requires-clause-some
begun-requires-clause-some c = sym (c.has_group.ensures c.args.rows) ∙ c.if-not-has_group.false

pub begun-requires-clause-there : goal.begun-requires-clause-there
begun-requires-clause-there c = λ g e. (c.in_ok-has_lists.ensures g e).0 c.if-not-branch.false

pub side_by_side-requires : goal.side_by_side-requires
side_by_side-requires c = c.in_ok-walk.ensures
