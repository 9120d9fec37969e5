use Rattle.std.proofs.Common.{◌≡◌, ◌≤◌, length, drop}
use Rattle.column_laws.specs.Columns.{linear_value}
use Rattle.eval_reduce.specs.Linear.{coefficients}
use Rattle.eval_reduce.proofs.combination.Combination.value.Given as goal

abbrev pub invariant-loop-i : goal.invariant-loop-i
invariant-loop-i l = (l.i ≤ length l.values) × (l.sum ≡ linear_value l.self.constant (coefficients (drop l.i l.self.terms)) (drop l.i l.values))

abbrev pub decreases-loop-i : goal.decreases-loop-i
decreases-loop-i l = l.i
