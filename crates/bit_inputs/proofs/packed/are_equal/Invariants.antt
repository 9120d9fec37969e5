use Rattle.std.proofs.Common.{◌≡◌, ◌≤◌, length, take}
use Rattle.bit_inputs.proofs.packed.are_equal.Given as goal

abbrev pub invariant-loop-i : goal.invariant-loop-i
invariant-loop-i l = record {
  within : l.i ≤ length l.xs;
  lengths : length l.xs ≡ length l.ys;
  same : take l.i l.xs ≡ take l.i l.ys;
}
