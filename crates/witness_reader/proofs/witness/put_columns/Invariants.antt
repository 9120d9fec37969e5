use Rattle.std.proofs.Common.{◌≡◌, get_or}
use Rattle.witness_reader.proofs.Putting.{columns_put}
use Rattle.witness_reader.proofs.witness.put_columns.Given as goal

abbrev pub invariant-loop-c : goal.invariant-loop-c
invariant-loop-c l = l.draft ≡ columns_put l.initial.draft l.t (get_or l.initial.draft.rows l.t 0) l.table.columns l.bytes l.c
