use Rattle.channel_products.proofs.StackSteps.{AreMade}
use Rattle.channel_products.proofs.layers.layers_below.Given as goal

abbrev pub invariant-loop-layer : goal.invariant-loop-layer
invariant-loop-layer l = AreMade l.fn.leaves.items l.vars l.layer l.layers.items l.last.items

abbrev pub decreases-loop-layer : goal.decreases-loop-layer
decreases-loop-layer l = l.layer
