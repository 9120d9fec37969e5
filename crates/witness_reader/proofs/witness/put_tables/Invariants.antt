use Rattle.std.proofs.Common.{◌≡◌}
use Rattle.witness_reader.proofs.Putting.{tables_put}
use Rattle.witness_reader.proofs.witness.put_tables.Given as goal

abbrev pub invariant-loop-t : goal.invariant-loop-t
invariant-loop-t l = l.draft ≡ tables_put l.initial.draft l.tables l.bytes l.t
