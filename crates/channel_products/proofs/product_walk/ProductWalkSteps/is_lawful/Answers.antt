use Rattle.channel_products.proofs.DescentLaws.{descent_lawful}
use Rattle.channel_products.proofs.product_walk.ProductWalkSteps.is_lawful.Goals as goal

pub returns : goal.returns
returns c = descent_lawful
