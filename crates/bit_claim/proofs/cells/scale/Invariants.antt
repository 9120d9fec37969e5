use Rattle.std.proofs.Common.{◌≡◌, ℕ, ◌<◌, ◌≤◌, length, slice_index}
use Rattle.tower_laws.specs.Tower.{mul}
use Rattle.bit_claim.proofs.cells.scale.Given as goal

abbrev pub invariant-loop-i : goal.invariant-loop-i
invariant-loop-i l = record {
  long : length l.values.items ≡ length l.fn.values.items;
  done : (j : ℕ) → j < l.i → slice_index l.values.items j ≡ mul l.factor (slice_index l.fn.values.items j);
  left : (j : ℕ) → l.i ≤ j → slice_index l.values.items j ≡ slice_index l.fn.values.items j;
}
