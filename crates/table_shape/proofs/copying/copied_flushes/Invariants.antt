use Rattle.std.proofs.Common.{◌≡◌, ◌++◌, drop}
use Rattle.table_shape.proofs.copying.copied_flushes.Given as goal

abbrev pub invariant-loop-flush : goal.invariant-loop-flush
invariant-loop-flush l = l.copies ++ drop l.flush-index l.flushes ≡ l.flushes
