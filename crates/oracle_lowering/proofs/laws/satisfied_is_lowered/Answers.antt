use Rattle.oracle_lowering.proofs.Satisfied.{satisfied}
use Rattle.oracle_lowering.proofs.laws.satisfied_is_lowered.Goals as goal

pub returns : goal.returns
returns c = satisfied
