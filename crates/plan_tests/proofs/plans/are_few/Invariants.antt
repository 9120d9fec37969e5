use Rattle.std.proofs.Common.{ℕ, ◌<◌, ◌≤◌, get_or}
use Rattle.plan_tests.proofs.plans.are_few.Given as goal

abbrev pub invariant-loop-m : goal.invariant-loop-m
invariant-loop-m l = (t : ℕ) → t < l.m-index → get_or l.rows t 0 ≤ 1048576
