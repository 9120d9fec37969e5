use Rattle.std.proofs.Common.{◌≡◌, length}
use Rattle.sum_bench.proofs.table.Given as goal

abbrev pub invariant-values : goal.invariant-values
invariant-values l = length l.values.items ≡ l.p
