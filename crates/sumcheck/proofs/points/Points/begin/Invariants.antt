use Rattle.std.proofs.Common.{◌≡◌, ◌≤◌, [], length, vec_capacity}
use Rattle.std.specs.List.{All}
use Rattle.sumcheck.proofs.points.Points.begin.Given as goal

abbrev pub invariant-loop : goal.invariant-loop
invariant-loop l = (length l.points.items ≡ l.counter) × All (λ v. (v.items ≡ []) × (l.vars ≤ vec_capacity v)) l.points.items
