use Rattle.word_laws.proofs.FoldSteps.{fold_once, fold_to_end}
use Rattle.word_laws.proofs.lists_are_folded.Goals as goal

pub returns : goal.returns
returns c = record { once = fold_once; all = fold_to_end }
