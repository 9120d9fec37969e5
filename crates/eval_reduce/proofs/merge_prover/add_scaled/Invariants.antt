use Rattle.std.proofs.Common.{◌≡◌, ℕ, ◌<◌, ◌≤◌, length, get_or, bit_xor}
use Rattle.tower_laws.specs.Tower.{mul}
use Rattle.eval_reduce.proofs.merge_prover.add_scaled.Given as goal

abbrev pub invariant-loop-i : goal.invariant-loop-i
invariant-loop-i l = record {
  long : length l.cells.items ≡ length l.fn.cells.items;
  done : (j : ℕ) → j < l.i → get_or l.cells.items j 0 ≡ bit_xor (get_or l.table j 0) (mul l.mu (get_or l.fn.cells.items j 0));
  left : (j : ℕ) → l.i ≤ j → get_or l.cells.items j 0 ≡ get_or l.fn.cells.items j 0;
}
