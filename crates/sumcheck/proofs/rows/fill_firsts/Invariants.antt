use Rattle.std.proofs.Common.{◌≡◌, ◌≤◌, ◌+◌, ◌++◌, drop, length, vec_capacity}
use Rattle.cube_laws.specs.SumClaim.{AllLong, row}
use Rattle.sumcheck.proofs.rows.fill_firsts.Given as goal

abbrev pub invariant-loop-table : goal.invariant-loop-table
invariant-loop-table l = record {
  long : AllLong 1 (drop l.table-index l.tables);
  rest : l.firsts.items ++ row (drop l.table-index l.tables) 0 ≡ row l.tables 0;
  room : length l.firsts.items + length (drop l.table-index l.tables) ≤ vec_capacity l.firsts;
  kept : vec_capacity l.fn.firsts ≤ vec_capacity l.firsts;
}
