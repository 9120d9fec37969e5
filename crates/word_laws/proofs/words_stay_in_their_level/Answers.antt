use Rattle.word_laws.proofs.Fits.{hat_fits, word_fits, fold_pair_fits}
use Rattle.word_laws.proofs.words_stay_in_their_level.Goals as goal

pub returns : goal.returns
returns c = record { hat_fits = hat_fits; word_fits = word_fits; fold_fits = fold_pair_fits }
