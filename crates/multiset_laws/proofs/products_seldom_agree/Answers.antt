use Rattle.multiset_laws.proofs.ProductBound.{products_apart}
use Rattle.multiset_laws.proofs.products_seldom_agree.Goals as goal

pub returns : goal.returns
returns c = products_apart
