use Rattle.packed_words.proofs.InPlace.{Scaled}
use Rattle.packed_words.proofs.multiples.Multiples.scale.Given as goal

abbrev pub invariant-loop-i : goal.invariant-loop-i
invariant-loop-i l = Scaled l.self l.i l.initial.values l.values
