use Rattle.std.proofs.Common.{ℕ, ◌≤◌, ◌≡◌, ◌-◌, ◌^◌}
use Rattle.sumcheck.proofs.sum_prover.exponent.Given as goal

abbrev pub invariant-loop-m : goal.invariant-loop-m
invariant-loop-m l = (k : ℕ) × (l.m ≤ k) × (k ≤ 32) × (l.size ≡ 2 ^ k)

abbrev pub decreases-loop-m : goal.decreases-loop-m
decreases-loop-m l = 33 - l.m
