use Rattle.std.proofs.Common.{◌≡◌, drop}
use Rattle.serde_json.specs.View.{members_view}
use Rattle.witness_reader.specs.Witness.{columns_bytes}
use Rattle.witness_reader.proofs.ReadingSteps.{with_front}
use Rattle.witness_reader.proofs.witness.columns_bytes.Given as goal

abbrev pub invariant-loop-c : goal.invariant-loop-c
invariant-loop-c l = with_front l.all (columns_bytes l.t l.c l.rows (drop l.c l.columns) (members_view l.object.entries)) ≡ columns_bytes l.t 0 l.rows l.columns (members_view l.object.entries)
