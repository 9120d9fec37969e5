use Rattle.m3_walk.proofs.Linked.{lawful_linking}
use Rattle.m3_walk.proofs.linking.StageLinked.is_linked.Goals as goal

pub returns-clause-lawful : goal.returns-clause-lawful
returns-clause-lawful c = lawful_linking c.is_lawful.ensures c.products_keep_truth.ensures.first c.projections_keep_truth.ensures.same c.shiftings_keep_truth.ensures.same
