use Rattle.std.proofs.Common.{◌≡◌, ◌==◌, drop}
use Rattle.std.specs.List.{list_all}
use Rattle.table_shape.specs.Width.{log_values_at}
use Rattle.table_shape.proofs.flushes.have_one_value.Given as goal

abbrev pub invariant-loop-column : goal.invariant-loop-column
invariant-loop-column l = list_all (λ c. log_values_at l.columns c == 0) (drop l.column-index l.numbers) ≡ list_all (λ c. log_values_at l.columns c == 0) l.numbers
