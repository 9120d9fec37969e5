use Rattle.layer_laws.proofs.LayerSteps.{halves_are, layer_zero, layer_claim, layer_last, pair_joined, pair_counted}
use Rattle.layer_laws.proofs.layers_are_products.Goals as goal

pub returns : goal.returns
returns c = record { halves = halves_are; first = layer_zero; sum = layer_claim; final = layer_last; joined = pair_joined; counted = pair_counted }
