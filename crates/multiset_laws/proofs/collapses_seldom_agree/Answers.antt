use Rattle.multiset_laws.proofs.CollapseBound.{collapses_apart}
use Rattle.multiset_laws.proofs.collapses_seldom_agree.Goals as goal

pub returns : goal.returns
returns c = collapses_apart
