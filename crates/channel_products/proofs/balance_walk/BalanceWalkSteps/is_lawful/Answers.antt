use Rattle.channel_products.proofs.BalanceLaws.{balance_lawful}
use Rattle.channel_products.proofs.balance_walk.BalanceWalkSteps.is_lawful.Goals as goal

pub returns : goal.returns
returns c = balance_lawful
