use Rattle.std.proofs.Common.{◌≡◌, ◌≤◌, length, drop}
use Rattle.poly_laws.specs.Polynomial.{horner}
use Rattle.eval_reduce.specs.Merge.{values}
use Rattle.eval_reduce.proofs.batch.value_of_batch.Given as goal

abbrev pub invariant-loop-i : goal.invariant-loop-i
invariant-loop-i l = (l.i ≤ length l.claims) × (l.sum ≡ horner (values (drop l.i l.claims)) l.mu)

abbrev pub decreases-loop-i : goal.decreases-loop-i
decreases-loop-i l = l.i
