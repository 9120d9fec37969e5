use Rattle.std.proofs.Common.{◌≡◌, ◌≤◌, length, drop}
use Rattle.poly_laws.specs.Polynomial.{horner}
use Rattle.eval_reduce.specs.Merge.{eqs}
use Rattle.eval_reduce.proofs.batch.eq_of_batch.Given as goal

abbrev pub invariant-loop-i : goal.invariant-loop-i
invariant-loop-i l = (l.i ≤ length l.claims) × (l.sum ≡ horner (eqs l.at (drop l.i l.claims)) l.mu)

abbrev pub decreases-loop-i : goal.decreases-loop-i
decreases-loop-i l = l.i
