use Rattle.std.proofs.Common.{◌≡◌, length}
use Rattle.walk_bench.proofs.bits.Given as goal

abbrev pub invariant-values : goal.invariant-values
invariant-values l = length l.values.items ≡ l.p
