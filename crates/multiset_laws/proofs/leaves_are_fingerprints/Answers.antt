use Rattle.multiset_laws.proofs.Leaves.{leaves_law}
use Rattle.multiset_laws.proofs.leaves_are_fingerprints.Goals as goal

pub returns : goal.returns
returns c = λ a g is_there selected tuple rows. leaves_law a g selected is_there tuple rows
