use Rattle.word_laws.proofs.WordSums.{by_subsets_is, fold_of_word, last_word}
use Rattle.word_laws.proofs.word_folds.Goals as goal

pub returns : goal.returns
returns c = record { fold = fold_of_word; last = last_word; quick = by_subsets_is }
