use Rattle.std.proofs.Common.{◌≡◌, ℕ, ◌+◌, ◌<◌, length, get_or}
use Rattle.m3_judge.proofs.blocks.values_from.Given as goal

abbrev pub invariant-loop-i : goal.invariant-loop-i
invariant-loop-i g l = record {
  long : length l.block ≡ 16;
  done : (j : ℕ) (d : g.row.F.Denot) → j < l.i → g.F.Tower.number (get_or l.block j d) ≡ get_or l.column.values (l.first + j) 0;
}
