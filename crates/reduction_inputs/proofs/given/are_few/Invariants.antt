use Rattle.std.proofs.Common.{ℕ, ◌<◌, ◌≤◌, slice_index}
use Rattle.table_shape.specs.Limits.{max_rows}
use Rattle.reduction_inputs.proofs.given.are_few.Given as goal

abbrev pub invariant-loop-n : goal.invariant-loop-n
invariant-loop-n l = (t : ℕ) → t < l.n-index → slice_index l.rows t ≤ max_rows
