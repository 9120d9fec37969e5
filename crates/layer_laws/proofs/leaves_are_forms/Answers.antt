use Rattle.layer_laws.proofs.LeafSteps.{leaf_is, leaf_degree, flush_product}
use Rattle.layer_laws.proofs.leaves_are_forms.Goals as goal

pub returns : goal.returns
returns c = record { is_leaf = leaf_is; degree_is = leaf_degree; product = flush_product }
