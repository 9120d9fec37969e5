use Rattle.std.proofs.Common.{◌≡◌, ◌≤◌, ◌-◌, length}
use Rattle.proof_format.specs.Head.{rows_fault, rows_place}
use Rattle.proof_format.proofs.head.check_rows.Given as goal

abbrev pub invariant-loop-table : goal.invariant-loop-table
invariant-loop-table l = record {
  rest : rows_fault l.tables 0 l.tables l.bytes ≡ rows_fault l.tables l.table (l.tables - l.table) l.bytes;
  whole : rows_place l.table ≤ length l.bytes;
}
