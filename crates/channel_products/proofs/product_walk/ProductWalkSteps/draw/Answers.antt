use Rattle.channel_products.proofs.DescentSteps.{bind_layers, bind_leaves}
use Rattle.channel_products.proofs.product_walk.ProductWalkSteps.draw.Goals as goal

pub bind-requires : goal.bind-requires
bind-requires c = bind_layers _ _ _ _ _ _ _ c.self.view_is c.in-Layers.is c.requires

pub bind-requires-in-Leaves : goal.bind-requires-in-Leaves
bind-requires-in-Leaves c = bind_leaves _ _ _ _ _ _ _ c.self.view_is c.in-Leaves.is c.requires
