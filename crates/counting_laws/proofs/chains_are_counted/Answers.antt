use Rattle.counting_laws.proofs.Chains.{chains_counted}
use Rattle.counting_laws.proofs.chains_are_counted.Goals as goal

pub returns : goal.returns
returns c = chains_counted
