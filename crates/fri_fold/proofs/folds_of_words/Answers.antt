use Rattle.fri_fold.proofs.Words.{next_word, last_word_is}
use Rattle.fri_fold.proofs.folds_of_words.Goals as goal

pub returns : goal.returns
returns c = record { next = next_word; last = last_word_is }
