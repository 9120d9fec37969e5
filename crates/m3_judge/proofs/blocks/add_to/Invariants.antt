use Rattle.std.proofs.Common.{◌≡◌, ℕ, bit_xor, ◌<◌, ◌≤◌, length, get_or}
use Rattle.m3_judge.proofs.blocks.add_to.Given as goal

abbrev pub invariant-loop-i : goal.invariant-loop-i
invariant-loop-i g l = record {
  long : length l.sums ≡ length l.fn.sums;
  done : (j : ℕ) (d : g.row.F.Denot) → j < l.i → g.F.Tower.number (get_or l.sums j d) ≡ bit_xor (g.F.Tower.number (get_or l.fn.sums j d)) (g.F.Tower.number (get_or l.block j d));
  left : (j : ℕ) (d : g.row.F.Denot) → l.i ≤ j → get_or l.sums j d ≡ get_or l.fn.sums j d;
}
