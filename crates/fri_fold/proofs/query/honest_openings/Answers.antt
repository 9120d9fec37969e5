use Rattle.fri_fold.proofs.HonestSteps.{honest_passes, honest_folds, honest_constant}
use Rattle.fri_fold.proofs.query.honest_openings.Goals as goal

pub returns : goal.returns
returns c = record { passes = honest_passes; folds = honest_folds; constant = honest_constant }
