use Rattle.multiset_laws.proofs.CollapseBound.{collapses_apart}
use Rattle.multiset_laws.proofs.ProductBound.{products_apart}
use Rattle.channel_products.proofs.BalanceLaws.{balance_lawful}
use Rattle.channel_products.proofs.FirstLaws.{first_means}
use Rattle.channel_products.proofs.laws.balances_keep_truth.Goals as goal

pub returns : goal.returns
returns c = record { lawful = balance_lawful; first = first_means; alpha = collapses_apart; gamma = products_apart }
