use Rattle.counting_laws.proofs.Several.{tests_counted}
use Rattle.counting_laws.proofs.several_claims_are_counted.Goals as goal

pub returns : goal.returns
returns c = tests_counted
