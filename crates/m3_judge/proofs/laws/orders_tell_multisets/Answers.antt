use Rattle.m3_judge.proofs.Order.{orders_tell_multisets}
use Rattle.m3_judge.proofs.laws.orders_tell_multisets.Goals as goal

pub returns : goal.returns
returns c = orders_tell_multisets
