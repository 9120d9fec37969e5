use Rattle.channel_products.proofs.DescentLaws.{descent_lawful, product_means}
use Rattle.channel_products.proofs.laws.products_keep_truth.Goals as goal

pub returns : goal.returns
returns c = record { lawful = descent_lawful; first = product_means }
