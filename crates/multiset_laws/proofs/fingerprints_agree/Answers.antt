use Rattle.multiset_laws.proofs.Leaves.{balanced_products}
use Rattle.multiset_laws.proofs.fingerprints_agree.Goals as goal

pub returns : goal.returns
returns c = balanced_products
