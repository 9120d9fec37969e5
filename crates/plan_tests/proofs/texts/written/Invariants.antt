use Rattle.std.proofs.Common.{◌≡◌}
use Rattle.plan_tests.proofs.texts.written.Given as goal

abbrev pub invariant-loop-i : goal.invariant-loop-i
invariant-loop-i g l = l.text.length ≡ l.due
