use Rattle.std.proofs.Common.{◌≡◌, ℕ, ◌<◌, get_or}
use Rattle.m3_judge.proofs.blocks.are_zero.Given as goal

abbrev pub invariant-loop-i : goal.invariant-loop-i
invariant-loop-i g l = (j : ℕ) (d : g.row.F.Denot) → j < l.i → g.F.Tower.number (get_or l.block j d) ≡ 0
