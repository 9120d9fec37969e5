use Rattle.std.proofs.Common.{◌≡◌, ℕ, ◌<◌, ◌≤◌, length, get_or}
use Rattle.tower_laws.specs.Tower.{mul}
use Rattle.m3_judge.proofs.blocks.multiply.Given as goal

abbrev pub invariant-loop-i : goal.invariant-loop-i
invariant-loop-i g l = record {
  long : length l.products ≡ length l.fn.products;
  done : (j : ℕ) (d : g.row.F.Denot) → j < l.i → g.F.Tower.number (get_or l.products j d) ≡ mul (g.F.Tower.number (get_or l.fn.products j d)) (g.F.Tower.number (get_or l.block j d));
  left : (j : ℕ) (d : g.row.F.Denot) → l.i ≤ j → get_or l.products j d ≡ get_or l.fn.products j d;
}
