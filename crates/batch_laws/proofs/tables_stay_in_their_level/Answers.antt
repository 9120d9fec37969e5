use Rattle.batch_laws.proofs.Fits.{all_fit-weights, eq_points_fits, extension_fits, all_fit-fold_all, all_fit-batched}
use Rattle.batch_laws.proofs.tables_stay_in_their_level.Goals as goal

pub returns : goal.returns
returns c = record { weights_fit = all_fit-weights; eq_fits = eq_points_fits; extension_fits = extension_fits; folds_fit = all_fit-fold_all; batch_fits = all_fit-batched }
