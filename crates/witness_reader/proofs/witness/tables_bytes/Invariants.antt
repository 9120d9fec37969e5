use Rattle.std.proofs.Common.{◌≡◌, drop}
use Rattle.serde_json.specs.View.{members_view}
use Rattle.witness_reader.proofs.ReadingSteps.{with_front, bytes_from}
use Rattle.witness_reader.proofs.witness.tables_bytes.Given as goal

abbrev pub invariant-loop-t : goal.invariant-loop-t
invariant-loop-t l = with_front l.all (bytes_from l.t (drop l.t l.tables) (members_view l.whole.entries)) ≡ bytes_from 0 l.tables (members_view l.whole.entries)
