use Rattle.cube_laws.specs.Extension.{weights}
use Rattle.bit_claim.proofs.LowHigh.{Folding}
use Rattle.bit_claim.proofs.packed_tables.fold_words.Given as goal

abbrev pub invariant-loop-word : goal.invariant-loop-word
invariant-loop-word l = Folding (weights l.draws) l.words l.word-index l.made.items
