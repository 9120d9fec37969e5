use Rattle.packed_words.proofs.InPlace.{Folded}
use Rattle.packed_words.proofs.multiples.Multiples.fold_low.Given as goal

abbrev pub invariant-loop-i : goal.invariant-loop-i
invariant-loop-i l = Folded l.self l.half l.i l.initial.table.items l.table.items
