use Rattle.std.proofs.Common.{◌≡◌, length}
use Rattle.field_tests.proofs.extensions.twelve_variables.Given as goal

abbrev pub invariant-loop-k : goal.invariant-loop-k
invariant-loop-k g l = record { point : length l.point ≡ 12; other : length l.other ≡ 12 }
