use Rattle.std.proofs.Common.{◌≡◌, ℕ, ◌+◌, ◌*◌, ◌<◌}
use Rattle.table_shape.specs.Value.{value}
use Rattle.m3_judge.specs.Judging.{values_in}
use Rattle.m3_judge.proofs.blocks.are_zero_rows.Given as goal

abbrev pub invariant-loop-k : goal.invariant-loop-k
invariant-loop-k g l = (p : ℕ) → p < 16 * l.k → value (values_in l.columns (l.first + p)) l.constraint.expr ≡ 0
