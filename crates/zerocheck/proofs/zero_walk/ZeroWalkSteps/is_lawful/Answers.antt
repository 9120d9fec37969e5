use Rattle.zerocheck.proofs.ZeroLaws.{zero_lawful}
use Rattle.zerocheck.proofs.zero_walk.ZeroWalkSteps.is_lawful.Goals as goal

pub returns : goal.returns
returns c = zero_lawful
