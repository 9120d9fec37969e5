use Rattle.std.proofs.Common.{◌≡◌, ℕ, ◌<◌, ◌≤◌, length, get_or}
use Rattle.cube_laws.specs.Extension.{fold_low}
use Rattle.cube_mle.proofs.fold.fold_low.Given as goal

abbrev pub invariant-loop-i : goal.invariant-loop-i
invariant-loop-i l = record {
  long : length l.table.items ≡ length l.fn.table.items;
  done : (k : ℕ) → k < l.i → get_or l.table.items k 0 ≡ get_or (fold_low l.r l.fn.table.items) k 0;
  left : (k : ℕ) → l.i ≤ k → get_or l.table.items k 0 ≡ get_or l.fn.table.items k 0;
}
