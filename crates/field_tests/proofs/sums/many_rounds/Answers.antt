use Rattle.std.proofs.Common.{arith, refl}
use Rattle.field_tests.proofs.sums.many_rounds.Goals as goal

pub prove-requires : goal.prove-requires
prove-requires g c = (10, omega arith, refl)
