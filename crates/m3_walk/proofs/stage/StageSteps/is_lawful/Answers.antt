use Rattle.m3_walk.proofs.Stages.{all_lawful}
use Rattle.m3_walk.proofs.stage.StageSteps.is_lawful.Goals as goal

pub returns : goal.returns
returns c =
    all_lawful c.balances_keep_truth.ensures.lawful c.products_keep_truth.ensures.lawful c.zeros_keep_truth.ensures.lawful c.combinations_keep_truth.ensures c.merges_keep_truth.ensures c.packings_keep_truth.ensures.lawful c.shiftings_keep_truth.ensures.lawful c.batches_keep_truth.ensures.lawful c.switchings_keep_truth.ensures.lawful
