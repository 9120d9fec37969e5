use Rattle.packed_words.proofs.Exchanges.{Exchanged}
use Rattle.packed_words.proofs.transpose.exchange.Given as goal

abbrev pub invariant-loop-u : goal.invariant-loop-u
invariant-loop-u l = Exchanged l.k l.u l.initial.rows l.rows
