use Rattle.std.proofs.Common.{◌≡◌}
use Rattle.plan_tests.proofs.texts.write_openings.Given as goal

abbrev pub invariant-loop-query : goal.invariant-loop-query
invariant-loop-query g l = l.text.length ≡ l.due

abbrev pub invariant-loop-round : goal.invariant-loop-round
invariant-loop-round g l = l.text.length ≡ l.due
